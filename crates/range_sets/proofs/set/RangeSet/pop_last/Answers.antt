use Rattle.std.proofs.Common.{arith}
use Rattle.range_sets.proofs.EndRanges.{item_ranges_append}
use Rattle.range_sets.proofs.set.RangeSet.pop_last.Goals as goal
use Rattle.range_sets.proofs.set.RangeSet.pop_last.Goals.{in-Some, in-None}

pub returns-clause-last : goal.returns-clause-last
returns-clause-last g c = grind (arith, item_ranges_append)
