use Rattle.std.proofs.Common.{rules}
use Rattle.range_multimaps.proofs.members.hash_set.HashSetSetMut.contains.Goals as goal

pub returns : goal.returns
returns g c = search rules
