use Rattle.std.proofs.Common.{◌≡◌, ◌+◌, map, drop}
use Rattle.address_tables.specs.Numbers.{place}
use Rattle.address_tables.proofs.values.place_of.Given as goal

abbrev pub invariant-loop-index : goal.invariant-loop-index
invariant-loop-index g l =
    place g.V.PartialEq.eq (map (λ v. v.now) l.values) l.value
    ≡ l.index + place g.V.PartialEq.eq (map (λ v. v.now) (drop l.index l.values)) l.value
