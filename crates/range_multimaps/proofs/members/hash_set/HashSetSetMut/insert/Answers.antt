use Rattle.std.proofs.Common.{rules}
use Rattle.range_multimaps.proofs.members.hash_set.HashSetSetMut.insert.Goals as goal

pub returns-clause-added : goal.returns-clause-added
returns-clause-added g c = search rules
