use Rattle.std.proofs.Common.{arith}
use Rattle.range_sets.proofs.Counting.{ranges_length}
use Rattle.range_sets.proofs.set.iter.IterIterator.size_hint.Goals as goal

pub returns : goal.returns
returns g c = grind (arith, ranges_length)
