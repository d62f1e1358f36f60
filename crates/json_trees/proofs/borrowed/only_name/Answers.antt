use Rattle.std.proofs.Common.{◌≡◌, sym, ap, ◌∙◌, ◌+◌, ◌∷◌, drop, true, false, ◌&&◌, bytes_eq, arith}
use Rattle.std.proofs.lemmas.List.{drop_more, drop_all}
use Rattle.json.specs.Value.{value_view, members_view}
use Rattle.json_trees.proofs.Seen.{all_alike, begins_with, names_agree, names_differ}
use Rattle.json_trees.proofs.borrowed.only_name.Goals as goal

pub returns-then-ne : goal.returns-then-ne
returns-then-ne c =
    let ms = c.args.members.now in
    let first = c.in_ok-first.first.now in
    let x = c.member-item.result in
    let i = c.loop-member.member-index in
    let here : drop i ms ≡ x ∷ drop (i + 1) ms =
    drop_more ms i x (omega (arith, c.loop-member-test.true, c.loop-member.auto.member-index-end))
    ∙ ap (λ y. y ∷ drop (i + 1) ms) (sym c.member-item.is) in
    let other : bytes_eq x.0.now first.0.now ≡ false = grind arith in
    let differ : all_alike first.0.now (members_view ms) ≡ false =
    sym c.loop-member.invariant
    ∙ ap (λ l. all_alike first.0.now (members_view l)) here
    ∙ ap (λ b. b && all_alike first.0.now (members_view (drop (i + 1) ms))) other in
    let begins = begins_with ms first c.in_ok-first.ensures.value in
    names_differ (members_view ms) first.0.now (value_view first.1) (members_view begins.0)
    (ap members_view begins.1) differ

pub returns : goal.returns
returns c =
    let ms = c.args.members.now in
    let first = c.in_ok-first.first.now in
    let i = c.loop-member.member-index in
    let ended =
    drop_all i ms (omega (arith, c.loop-member-test.false, c.loop-member.auto.member-index-end)) in
    let agree : all_alike first.0.now (members_view ms) ≡ true =
    sym c.loop-member.invariant ∙ ap (λ l. all_alike first.0.now (members_view l)) ended in
    let begins = begins_with ms first c.in_ok-first.ensures.value in
    names_agree (members_view ms) first.0.now (value_view first.1) (members_view begins.0)
    (ap members_view begins.1) agree
