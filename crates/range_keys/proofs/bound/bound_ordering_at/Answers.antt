use Rattle.std.proofs.Common.{rules}
use Rattle.range_keys.proofs.bound.bound_ordering_at.Goals as goal

pub returns-in-Greater-Start : goal.returns-in-Greater-Start
returns-in-Greater-Start g c = search rules

pub returns-in-Less-Start : goal.returns-in-Less-Start
returns-in-Less-Start g c = search rules

pub returns-in-Greater-End : goal.returns-in-Greater-End
returns-in-Greater-End g c = search rules
