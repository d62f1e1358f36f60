use Rattle.std.proofs.Common.{ap}
use Rattle.range_reads.specs.FreeRanges.{item_ranges}
use Rattle.range_sets.proofs.EndRanges.{ranges_none}
use Rattle.range_sets.proofs.set.RangeSet.overlapping.Goals as goal

pub returns-clause-none : goal.returns-clause-none
returns-clause-none g c =
    rw (← c.self.view_is) (λ none.
    c.overlapping.ensures.none (ranges_none c.overlapping.result none))

pub returns-clause-complete : goal.returns-clause-complete
returns-clause-complete g c =
    rw (← c.self.view_is) (λ complete free.
    ap item_ranges (c.overlapping.ensures.complete complete free))
