use Rattle.range_edit.proofs.Common.{common_steps, ◌≡◌, ◌+◌, ◌∷◌, ◌++◌, length, take, drop, ap, ◌∙◌, arith, unwrap_or, AnyRange, Item, rank_or_len, option_items}
use Rattle.range_edit.proofs.BoundEdits.{kept_place, opening_regroups, regrouped_out}
use Rattle.range_edit.proofs.splice.change.Goals as goal

pub returns-in-Some-clause-list : goal.returns-in-Some-clause-list
returns-in-Some-clause-list g c = λ at end before behind start finish left_shape right_shape le.
    let storage = g.C.Storage in
    let stored = c.args.stored.now in
    let items = storage.items stored in
    let ready = c.open_sides-start.new.stored in
    let kept = c.open_sides-start.ensures in
    let from = rank_or_len (storage.rank stored) (length items) c.args.sides.run.at in
    let upto = from + c.args.sides.run.left in
    let here = kept_place kept.positions kept.size c.args.sides.run.at c.requires.good in
    let opened = kept.opened at from upto end before behind start finish left_shape right_shape
    (omega (arith, le)) in
    let own = c.into_bounds-own_start in
    let starts : c.joined.result ≡ unwrap_or start c.in-Some.field-0.key.start = c.joined.ensures ∙
    (ap (λ o. unwrap_or o own.result.0) opened.start_is ∙ ap (unwrap_or start) own.ensures.start) in
    let ends : c.joined-in-Some.result ≡ unwrap_or finish c.in-Some.field-0.key.end =
    c.joined-in-Some.ensures ∙ (ap (λ o. unwrap_or o own.result.1) opened.end_is ∙ ap
    (unwrap_or finish) own.ensures.end) in
    let done = rw here at c.replace_run.ensures.list in
    let item : Item (AnyRange g.row.K.Denot) g.row.V.Denot = record {
      key = record { start = c.joined.result; end = c.joined-in-Some.result };
      value = c.in-Some.field-0.value;
    } in
    rw (c.in-Some.is, ← starts, ← ends) (done ∙ (ap (λ ys. ys ++ item ∷ drop upto
    (storage.items ready)) opened.front ∙ (ap (λ ys. (take at items ++ option_items before) ++ item
    ∷ ys) opened.behind ∙ opening_regroups (take at items) (option_items before)
    (option_items behind) (drop end items) item)))

pub returns-in-None-clause-list : goal.returns-in-None-clause-list
returns-in-None-clause-list g c = λ at end before behind start finish left_shape right_shape le.
    let storage = g.C.Storage in
    let stored = c.args.stored.now in
    let items = storage.items stored in
    let ready = c.open_sides-start.new.stored in
    let kept = c.open_sides-start.ensures in
    let from = rank_or_len (storage.rank stored) (length items) c.args.sides.run.at in
    let upto = from + c.args.sides.run.left in
    let here = kept_place kept.positions kept.size c.args.sides.run.at c.requires.good in
    let opened = kept.opened at from upto end before behind start finish left_shape right_shape
    (omega (arith, le)) in
    let done = rw here at c.remove_rest.ensures.list in
    rw c.in-None.is (done ∙ (ap (λ ys. ys ++ drop upto (storage.items ready)) opened.front ∙
    (ap (λ ys. (take at items ++ option_items before) ++ ys) opened.behind ∙ regrouped_out
    (take at items) (option_items before) (option_items behind) (drop end items))))

pub replace_run-requires-clause-in_range : goal.replace_run-requires-clause-in_range
replace_run-requires-clause-in_range g c = grind (arith, common_steps)

pub remove_rest-requires-clause-in_range : goal.remove_rest-requires-clause-in_range
remove_rest-requires-clause-in_range g c = grind (arith, common_steps)

pub returns-in-Some-clause-space : goal.returns-in-Some-clause-space
returns-in-Some-clause-space g c = grind (arith, common_steps)

pub returns-in-None-clause-space : goal.returns-in-None-clause-space
returns-in-None-clause-space g c = grind (arith, common_steps)
