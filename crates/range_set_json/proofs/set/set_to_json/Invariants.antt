use Rattle.std.proofs.Common.{length}
use Rattle.range_json.specs.Shapes.{range_shape}
use Rattle.range_json.specs.Values.{IsRangeValue}
use Rattle.range_reads.specs.FreeRanges.{item_ranges}
use Rattle.range_map_json.proofs.WritingLoop.{IsWrittenSoFar}
use Rattle.range_set_json.proofs.set.set_to_json.Given as goal

abbrev pub invariant-loop-range : goal.invariant-loop-range
invariant-loop-range g l =
    IsWrittenSoFar (range_shape g.T.Json.shape)
    (IsRangeValue g.T.Json.is_value) (item_ranges (g.C.Storage.items l.set)) l.ranges
    l.written.items

abbrev pub decreases-loop-range : goal.decreases-loop-range
decreases-loop-range g l = length l.ranges
