use Rattle.range_map.proofs.Common.{length, item_ranges}
use Rattle.range_map.proofs.MeasureTotals.{IsMeasured}
use Rattle.range_map.proofs.map.len.measure.Given as goal

abbrev pub invariant-loop-range : goal.invariant-loop-range
invariant-loop-range g l =
    IsMeasured g.K.MaybeBounded.order g.K.Measure.len g.K.Measure.distance
    (item_ranges l.initial.items) (item_ranges l.items) l.total

abbrev pub decreases-loop-range : goal.decreases-loop-range
decreases-loop-range g l = length l.items
