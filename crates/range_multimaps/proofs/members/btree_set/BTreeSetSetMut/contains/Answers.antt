use Rattle.std.proofs.Common.{rules}
use Rattle.range_multimaps.proofs.members.btree_set.BTreeSetSetMut.contains.Goals as goal

pub returns : goal.returns
returns g c = search rules
