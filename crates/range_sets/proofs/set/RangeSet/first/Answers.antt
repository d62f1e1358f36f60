use Rattle.std.proofs.Common.{ap}
use Rattle.range_reads.specs.FreeRanges.{item_ranges}
use Rattle.range_sets.proofs.set.RangeSet.first.Goals as goal

pub returns-in-Some : goal.returns-in-Some
returns-in-Some g c =
    let shown = c.in-Some.ensures.first in
    rw (← c.self.view_is) record { first = (item_ranges shown.0, ap item_ranges shown.1) }
