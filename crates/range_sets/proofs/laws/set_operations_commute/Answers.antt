use Rattle.range_sets.proofs.SetLaws.{either_commutes, both_commute, just_one_commutes}
use Rattle.range_sets.proofs.laws.set_operations_commute.Goals as goal

pub returns-clause-union : goal.returns-clause-union
returns-clause-union g c = either_commutes g.T.MaybeBounded.order g.met.T.PartialEnum.lawful

pub returns-clause-intersection : goal.returns-clause-intersection
returns-clause-intersection g c = both_commute g.T.MaybeBounded.order g.met.T.PartialEnum.lawful

pub returns-clause-symmetric_difference : goal.returns-clause-symmetric_difference
returns-clause-symmetric_difference g c =
    just_one_commutes g.T.MaybeBounded.order g.met.T.PartialEnum.lawful
