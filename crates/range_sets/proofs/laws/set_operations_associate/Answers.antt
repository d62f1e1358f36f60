use Rattle.range_sets.proofs.SetLaws.{either_associates, both_associate, just_one_associates}
use Rattle.range_sets.proofs.laws.set_operations_associate.Goals as goal

pub returns-clause-union : goal.returns-clause-union
returns-clause-union g c = either_associates g.T.MaybeBounded.order g.met.T.PartialEnum.lawful

pub returns-clause-intersection : goal.returns-clause-intersection
returns-clause-intersection g c = both_associate g.T.MaybeBounded.order g.met.T.PartialEnum.lawful

pub returns-clause-symmetric_difference : goal.returns-clause-symmetric_difference
returns-clause-symmetric_difference g c =
    just_one_associates g.T.MaybeBounded.order g.met.T.PartialEnum.lawful
