use Rattle.std.proofs.Common.{arith}
use Rattle.range_runs.proofs.PieceSteps.{last_is_less}
use Rattle.range_sets.proofs.EndRanges.{item_ranges_append}
use Rattle.range_sets.proofs.set.reads.OverlappingDoubleEndedIterator.next_back.Goals as goal
use Rattle.range_sets.proofs.set.reads.OverlappingDoubleEndedIterator.next_back.Goals.{in-Some, in-None}

pub returns : goal.returns
returns g c = grind (arith, item_ranges_append, last_is_less)
