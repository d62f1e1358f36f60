use Rattle.std.proofs.Common.{rules}
use Rattle.range_multimaps.proofs.members.btree_set.BTreeSetSetMut.insert.Goals as goal

pub returns-clause-added : goal.returns-clause-added
returns-clause-added g c = search rules
