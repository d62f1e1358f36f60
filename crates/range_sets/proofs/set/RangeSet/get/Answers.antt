use Rattle.std.proofs.Common.{arith}
use Rattle.range_runs.proofs.RangePieces.{any_over}
use Rattle.range_sets.proofs.set.RangeSet.get.Goals as goal

pub returns-in-Some : goal.returns-in-Some
returns-in-Some g c = grind (arith, any_over)
