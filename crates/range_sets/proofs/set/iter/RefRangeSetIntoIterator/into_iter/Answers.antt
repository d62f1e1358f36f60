use Rattle.std.proofs.Common.{rules}
use Rattle.range_sets.proofs.set.iter.RefRangeSetIntoIterator.into_iter.Goals as goal

pub returns : goal.returns
returns g c = search rules
