use Rattle.range_edit.proofs.Common.{common_steps, ◌≡◌, ◌+◌, ◌++◌, length, take, drop, ap, sym, ◌∙◌, arith, append_assoc, rank_or_len, with_first_start, with_last_end, option_items}
use Rattle.range_edit.proofs.OuterBounds.{length_started, length_ended}
use Rattle.range_edit.proofs.BoundEdits.{kept_place}
use Rattle.range_edit.proofs.splice.change_to.Goals as goal

pub replace_run_by-requires-clause-space : goal.replace_run_by-requires-clause-space
replace_run_by-requires-clause-space g c = grind (arith, common_steps, length_started, length_ended)

pub returns : goal.returns
returns g c = λ at end before behind start finish left_shape right_shape le.
    let storage = g.C.Storage in
    let stored = c.args.stored.now in
    let items = storage.items stored in
    let ready = c.open_sides-start.new.stored in
    let kept = c.open_sides-start.ensures in
    let from = rank_or_len (storage.rank stored) (length items) c.args.sides.run.at in
    let upto = from + c.args.sides.run.left in
    let here = kept_place kept.positions kept.size c.args.sides.run.at c.requires.good in
    let opened = kept.opened at from upto end before behind start finish left_shape right_shape
    (omega (arith, le)) in
    let own = with_last_end finish (with_first_start start c.args.items.items) in
    let put = c.end_at.new.items.items in
    let put_is : put ≡ own = c.end_at.ensures ∙
    (ap (λ o. with_last_end o c.start_at.new.items.items) opened.end_is ∙ ap (with_last_end finish)
    (c.start_at.ensures ∙ ap (λ o. with_first_start o c.args.items.items) opened.start_is))
    in
    let done = rw here at c.replace_run_by.ensures in
    done ∙ (ap (λ ys. ys ++ put ++ drop upto (storage.items ready)) opened.front ∙
    (ap (λ ys. (take at items ++ option_items before) ++ ys ++ drop upto (storage.items ready))
    put_is ∙ (ap (λ ys. (take at items ++ option_items before ++ own) ++ ys) opened.behind ∙ sym
    (append_assoc (take at items ++ option_items before ++ own) (option_items behind)
    (drop end items)))))
