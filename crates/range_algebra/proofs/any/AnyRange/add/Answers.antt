use Rattle.std.proofs.Common.{rules}
use Rattle.range_algebra.proofs.Taking.{hull_holds}
use Rattle.range_algebra.proofs.any.AnyRange.add.Goals as goal

pub returns-clause-start : goal.returns-clause-start
returns-clause-start g c = search rules

pub returns-clause-end : goal.returns-clause-end
returns-clause-end g c = search rules

pub returns-clause-held : goal.returns-clause-held
returns-clause-held g c = λ bounds k key.
    hull_holds g.T.MaybeBounded.order g.met.T.PartialEnum.lawful c.args.self.now.start
    (g.S.RangeBounds.start_bound c.args.other.now) _ c.args.self.now.end
    (g.S.RangeBounds.end_bound c.args.other.now) _ (returns-clause-start g c bounds)
    (returns-clause-end g c bounds) k key
