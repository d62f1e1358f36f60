use Rattle.range_sets.proofs.SetLaws.{either_is_dual, both_are_dual, first_alone_takes_complement}
use Rattle.range_sets.proofs.laws.complements_exchange_union_and_intersection.Goals as goal

pub returns-clause-union : goal.returns-clause-union
returns-clause-union g c = either_is_dual g.T.MaybeBounded.order g.met.T.PartialEnum.lawful

pub returns-clause-intersection : goal.returns-clause-intersection
returns-clause-intersection g c = both_are_dual g.T.MaybeBounded.order g.met.T.PartialEnum.lawful

pub returns-clause-difference : goal.returns-clause-difference
returns-clause-difference g c =
    first_alone_takes_complement g.T.MaybeBounded.order g.met.T.PartialEnum.lawful
