use Rattle.std.proofs.Common.{rules}
use Rattle.range_multimaps.proofs.multimap.RangeMultiMap.is_empty.Goals as goal

pub returns : goal.returns
returns g c = search rules
