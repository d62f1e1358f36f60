use Rattle.range_sets.proofs.SetLaws.{both_distribute, either_distributes}
use Rattle.range_sets.proofs.laws.set_operations_distribute.Goals as goal

pub returns-clause-intersection : goal.returns-clause-intersection
returns-clause-intersection g c = both_distribute g.T.MaybeBounded.order g.met.T.PartialEnum.lawful

pub returns-clause-union : goal.returns-clause-union
returns-clause-union g c = either_distributes g.T.MaybeBounded.order g.met.T.PartialEnum.lawful
