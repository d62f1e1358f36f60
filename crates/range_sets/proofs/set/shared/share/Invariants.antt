use Rattle.std.proofs.Common.{◌≡◌, ◌+◌, length, [], None}
use Rattle.std.specs.Option.{option_copied}
use Rattle.range_keys.specs.Order.{IsLawful}
use Rattle.range_reads.specs.FreeRanges.{item_ranges}
use Rattle.range_sets.proofs.Sharing.{IsSharedUpTo}
use Rattle.range_sets.proofs.Uniting.{ahead}
use Rattle.range_sets.proofs.set.shared.share.Given as goal

abbrev pub invariant-loop-range : goal.invariant-loop-range
invariant-loop-range g l = record {
  shared : (lawful : IsLawful g.T.MaybeBounded.order) → IsSharedUpTo lawful
      (item_ranges (g.C.Storage.items l.set)) (item_ranges (g.D.Storage.items l.other))
      (ahead l.left l.items) (ahead l.right l.others) l.ranges.items;
  first : option_copied l.left ≡ None → l.items ≡ [];
  second : option_copied l.right ≡ None → l.others ≡ [];
}

abbrev pub decreases-loop-range : goal.decreases-loop-range
decreases-loop-range g l = length (ahead l.left l.items) + length (ahead l.right l.others)
