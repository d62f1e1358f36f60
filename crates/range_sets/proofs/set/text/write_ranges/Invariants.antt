use Rattle.std.proofs.Common.{length}
use Rattle.range_reads.specs.FreeRanges.{item_ranges}
use Rattle.range_sets.proofs.Showing.{HasShown}
use Rattle.range_sets.proofs.set.text.write_ranges.Given as goal

abbrev pub invariant-loop-range : goal.invariant-loop-range
invariant-loop-range g l =
    HasShown g.T.Debug.debug_output g.W.Write.write_str_gives
    (item_ranges (g.C.Storage.items l.set)) l.ranges l.fn.f l.f

abbrev pub decreases-loop-range : goal.decreases-loop-range
decreases-loop-range g l = length l.ranges
