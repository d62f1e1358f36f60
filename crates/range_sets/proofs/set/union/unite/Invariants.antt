use Rattle.std.proofs.Common.{◌≡◌, ◌+◌, length, [], None}
use Rattle.std.specs.Option.{option_copied}
use Rattle.range_keys.specs.Order.{IsLawful}
use Rattle.range_algebra.specs.References.{range_of}
use Rattle.range_sets.proofs.Uniting.{IsUnitedUpTo, ahead}
use Rattle.range_sets.proofs.set.union.unite.Given as goal

abbrev pub invariant-loop-range : goal.invariant-loop-range
invariant-loop-range g l = record {
  united : (lawful : IsLawful g.T.MaybeBounded.order) → IsUnitedUpTo lawful
      (g.C.Storage.items l.set) (g.D.Storage.items l.other) (ahead l.left l.items)
      (ahead l.right l.others) l.ranges.items (range_of l.last);
  first : option_copied l.left ≡ None → l.items ≡ [];
  second : option_copied l.right ≡ None → l.others ≡ [];
}

abbrev pub decreases-loop-range : goal.decreases-loop-range
decreases-loop-range g l = length (ahead l.left l.items) + length (ahead l.right l.others)
