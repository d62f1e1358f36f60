use Rattle.range_algebra.proofs.Joined.{before_joined, after_joined}
use Rattle.range_algebra.proofs.laws.touching_ranges_are_joined.Goals as goal

pub returns-clause-before : goal.returns-clause-before
returns-clause-before g c = before_joined g.T.MaybeBounded.order g.met.T.PartialEnum.lawful

pub returns-clause-after : goal.returns-clause-after
returns-clause-after g c = after_joined g.T.MaybeBounded.order g.met.T.PartialEnum.lawful
