use Rattle.std.proofs.Common.{rules, IsTrue}
use Rattle.range_algebra.specs.Range.{IsEmptyRange}
use Rattle.range_algebra.proofs.Holding.{empty_is_keyless}
use Rattle.range_algebra.proofs.Completeness.{keyless_is_empty}
use Rattle.range_algebra.proofs.range.AsRange.is_empty.Goals as goal

pub returns-clause-keyless : goal.returns-clause-keyless
returns-clause-keyless g c = λ e.
    let order = g.Self.Item.MaybeBounded.order in
    let empty : IsTrue c.starts_past_end.result
    → IsEmptyRange order (g.Self.AsRange.range c.args.self.now) = search rules in
    empty_is_keyless order g.met.Self.Item.PartialEnum.lawful (g.Self.AsRange.range c.args.self.now)
    (empty e)

pub returns-clause-complete : goal.returns-clause-complete
returns-clause-complete g c = λ complete none.
    let order = g.Self.Item.MaybeBounded.order in
    let empty : IsEmptyRange order (g.Self.AsRange.range c.args.self.now)
    → IsTrue c.starts_past_end.result = search rules in
    empty (keyless_is_empty order g.met.Self.Item.PartialEnum.lawful complete
    (g.Self.AsRange.range c.args.self.now) c.known_range.ensures none)
