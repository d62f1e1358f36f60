use Rattle.std.proofs.Common.{rules}
use Rattle.range_multimaps.proofs.members.btree_set.BTreeSetSetMut.remove.Goals as goal

pub returns : goal.returns
returns g c = search rules
