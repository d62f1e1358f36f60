use Rattle.std.proofs.Common.{◌≡◌, ◌<◌, ◌≤◌, ◌^◌, map, length, arith}
use Rattle.std.proofs.lemmas.List.{length-map}
use Rattle.address_tables.proofs.Places.{at_most}
use Rattle.address_tables.proofs.values.other_place.Goals as goal

pub overflow_cast-result : goal.overflow_cast-result
overflow_cast-result g c =
    let most = at_most g.V.PartialEq.eq (map (λ v. v.now) c.args.values.now) c.in-Some.value.now in
    let long = length-map c.args.values.now (λ v. v.now) in
    omega (arith, most, long, c.place_of.ensures, c.requires)
