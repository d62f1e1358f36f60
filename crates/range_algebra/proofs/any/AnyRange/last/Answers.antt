use Rattle.std.proofs.Common.{rules}
use Rattle.range_algebra.specs.Range.{IsEmptyRange}
use Rattle.range_algebra.proofs.Results.{if_ok}
use Rattle.range_algebra.proofs.Ends.{last_is_greatest, last_none}
use Rattle.range_algebra.proofs.any.AnyRange.last.Goals as goal

pub returns-clause-greatest : goal.returns-clause-greatest
returns-clause-greatest g c =
    let order = g.T.MaybeBounded.order in
    let full : ¬ IsEmptyRange order c.args.self.now = search rules in
    if_ok _ _ c.key_of_end.result
    (last_is_greatest order g.met.T.PartialEnum.lawful c.args.self.now c.known.ensures full)
    c.key_of_end.ensures.named

pub returns-clause-complete : goal.returns-clause-complete
returns-clause-complete g c = λ complete.
    let order = g.T.MaybeBounded.order in
    if_ok _ _ c.key_of_end.result
    (last_none order g.met.T.PartialEnum.lawful c.args.self.now complete c.known.ensures)
    c.key_of_end.ensures.named

pub returns-clause-nonempty : goal.returns-clause-nonempty
returns-clause-nonempty g c = search rules
