use Rattle.std.proofs.Common.{◌≡◌, sym, ap, ◌∙◌, ◌+◌, ◌∷◌, drop, false, ◌||◌, ◌&&◌, bytes_eq, arith}
use Rattle.std.proofs.lemmas.List.{drop_more, drop_all}
use Rattle.json.specs.Value.{members_view}
use Rattle.json_trees.proofs.Seen.{all_named, names_of_members}
use Rattle.json_trees.proofs.borrowed.has_names_among.Goals as goal

pub returns-then-ne-2 : goal.returns-then-ne-2
returns-then-ne-2 c =
    let ms = c.args.members.now in
    let x = c.member-item.result in
    let i = c.loop-member.member-index in
    let first = c.args.first.now in
    let second = c.args.second.now in
    let here : drop i ms ≡ x ∷ drop (i + 1) ms =
    drop_more ms i x (omega (arith, c.loop-member-test.true, c.loop-member.auto.member-index-end))
    ∙ ap (λ y. y ∷ drop (i + 1) ms) (sym c.member-item.is) in
    let one : bytes_eq x.0.now first ≡ false = grind arith in
    let two : bytes_eq x.0.now second ≡ false = grind arith in
    let rest = all_named first second (members_view (drop (i + 1) ms)) in
    let named : all_named first second (members_view (drop i ms)) ≡ false =
    ap (λ l. all_named first second (members_view l)) here
    ∙ ap (λ b. (b || bytes_eq x.0.now second) && rest) one ∙ ap (λ b. b && rest) two in
    sym named ∙ c.loop-member.invariant ∙ names_of_members first second (members_view ms)

pub returns : goal.returns
returns c =
    let ms = c.args.members.now in
    let i = c.loop-member.member-index in
    let first = c.args.first.now in
    let second = c.args.second.now in
    let ended =
    drop_all i ms (omega (arith, c.loop-member-test.false, c.loop-member.auto.member-index-end)) in
    sym (ap (λ l. all_named first second (members_view l)) ended) ∙ c.loop-member.invariant
    ∙ names_of_members first second (members_view ms)
