use Rattle.std.proofs.Common.{◌≡◌, ◌+◌, ◌++◌, length, [], None}
use Rattle.std.specs.Option.{option_copied, option_map}
use Rattle.range_keys.specs.Order.{IsLawful}
use Rattle.range_algebra.specs.References.{range_of}
use Rattle.range_reads.specs.FreeRanges.{item_ranges}
use Rattle.range_runs.specs.Window.{option_items}
use Rattle.range_sets.proofs.Subtracting.{IsSubtractedUpTo}
use Rattle.range_sets.proofs.Uniting.{ahead}
use Rattle.range_sets.proofs.set.subtracted.subtract.Given as goal

abbrev pub invariant-loop-left : goal.invariant-loop-left
invariant-loop-left g l = record {
  subtracted : (lawful : IsLawful g.T.MaybeBounded.order) → IsSubtractedUpTo lawful
      (item_ranges (g.C.Storage.items l.set)) (item_ranges (g.D.Storage.items l.other))
      (option_items (option_map range_of l.left) ++ l.items) (ahead l.right l.others)
      l.ranges.items;
  first : l.left ≡ None → l.items ≡ [];
  second : option_copied l.right ≡ None → l.others ≡ [];
}

abbrev pub decreases-loop-left : goal.decreases-loop-left
decreases-loop-left g l =
    length (option_items (option_map range_of l.left) ++ l.items) + length (ahead l.right l.others)
