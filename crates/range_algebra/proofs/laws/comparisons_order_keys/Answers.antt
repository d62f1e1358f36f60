use Rattle.range_algebra.proofs.Joined.{before_below, after_below, below_before, below_after}
use Rattle.range_algebra.proofs.laws.comparisons_order_keys.Goals as goal

pub returns-clause-before : goal.returns-clause-before
returns-clause-before g c = before_below g.T.MaybeBounded.order g.met.T.PartialEnum.lawful

pub returns-clause-after : goal.returns-clause-after
returns-clause-after g c = after_below g.T.MaybeBounded.order g.met.T.PartialEnum.lawful

pub returns-clause-below : goal.returns-clause-below
returns-clause-below g c = below_before g.T.MaybeBounded.order g.met.T.PartialEnum.lawful

pub returns-clause-above : goal.returns-clause-above
returns-clause-above g c = below_after g.T.MaybeBounded.order g.met.T.PartialEnum.lawful
