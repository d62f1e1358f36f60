use Rattle.std.proofs.Common.{◌≡◌, ◌<◌, ◌++◌, [], ◌∷◌, map, length, subst, sym, ◌∙◌, arith}
use Rattle.std.proofs.lemmas.List.{map-append, length-map}
use Rattle.std.specs.Borrow.{Bor}
use Rattle.address_tables.specs.Numbers.{IsAmong, place}
use Rattle.address_tables.proofs.Places.{among_last, among_more, at_most}
use Rattle.address_tables.proofs.values.add.Goals as goal

pub returns-in_ok-push-clause-here : goal.returns-in_ok-push-clause-here
returns-in_ok-push-clause-here g c =
    rw (c.in_ok-push.ensures.items, map-append)
    (among_last g.V.PartialEq.eq g.met.V.Eq.laws (map (λ v. v.now) c.args.values.now.items)
    c.args.value.now)

pub returns-in_ok-push-clause-kept : goal.returns-in_ok-push-clause-kept
returns-in_ok-push-clause-kept g c =
    λ v is. rw (c.in_ok-push.ensures.items, map-append)
    (among_more g.V.PartialEq.eq (map (λ v. v.now) c.args.values.now.items)
    (c.args.value.now ∷ []) v is)

pub returns-else-place_of-len-clause-here : goal.returns-else-place_of-len-clause-here
returns-else-place_of-len-clause-here g c =
    let is = rw c.as_slice.ensures.value at c.place_of.ensures in
    let long = rw c.as_slice.ensures.value at c.as_slice.ensures.len in
    let most = at_most g.V.PartialEq.eq (map (λ v. v.now) c.args.values.now.items) c.args.value.now in
    let mapped = length-map c.args.values.now.items (λ v. v.now) in
    omega (arith, is, long, most, mapped, c.len.ensures, c.if-place_of-len.false)
