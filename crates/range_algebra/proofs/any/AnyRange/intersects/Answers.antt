use Rattle.std.proofs.Common.{rules}
use Rattle.range_algebra.specs.Range.{IsKeyRange, with_bounds}
use Rattle.range_algebra.proofs.Meeting.{meets_by, shares_by}
use Rattle.range_algebra.proofs.any.AnyRange.intersects.Goals as goal

pub returns-then-not-starts_past_end-clause-by_position :
    goal.returns-then-not-starts_past_end-clause-by_position
returns-then-not-starts_past_end-clause-by_position g c = search rules

pub returns-then-not-starts_past_end-clause-meets :
    goal.returns-then-not-starts_past_end-clause-meets
returns-then-not-starts_past_end-clause-meets g c = λ bounds full full'.
    meets_by g.T.MaybeBounded.order g.met.T.PartialEnum.lawful c.args.self.now
    (with_bounds (g.S.RangeBounds.start_bound c.args.other.now)
    (g.S.RangeBounds.end_bound c.args.other.now)) full full' _
    (returns-then-not-starts_past_end-clause-by_position g c bounds)

pub returns-then-not-starts_past_end-clause-complete :
    goal.returns-then-not-starts_past_end-clause-complete
returns-then-not-starts_past_end-clause-complete g c = λ bounds complete full full'.
    let s =
    with_bounds (g.S.RangeBounds.start_bound c.args.other.now)
    (g.S.RangeBounds.end_bound c.args.other.now) in
    let known : IsKeyRange g.T.MaybeBounded.order s = search rules in
    shares_by g.T.MaybeBounded.order g.met.T.PartialEnum.lawful c.args.self.now s full full'
    complete c.known.ensures known _
    (returns-then-not-starts_past_end-clause-by_position g c bounds)

pub returns-else-not-starts_past_end-clause-by_position :
    goal.returns-else-not-starts_past_end-clause-by_position
returns-else-not-starts_past_end-clause-by_position g c = search rules

pub returns-else-not-starts_past_end-clause-meets :
    goal.returns-else-not-starts_past_end-clause-meets
returns-else-not-starts_past_end-clause-meets g c = λ bounds full full'.
    meets_by g.T.MaybeBounded.order g.met.T.PartialEnum.lawful c.args.self.now
    (with_bounds (g.S.RangeBounds.start_bound c.args.other.now)
    (g.S.RangeBounds.end_bound c.args.other.now)) full full' _
    (returns-else-not-starts_past_end-clause-by_position g c bounds)

pub returns-else-not-starts_past_end-clause-complete :
    goal.returns-else-not-starts_past_end-clause-complete
returns-else-not-starts_past_end-clause-complete g c = λ bounds complete full full'.
    let s =
    with_bounds (g.S.RangeBounds.start_bound c.args.other.now)
    (g.S.RangeBounds.end_bound c.args.other.now) in
    let known : IsKeyRange g.T.MaybeBounded.order s = search rules in
    shares_by g.T.MaybeBounded.order g.met.T.PartialEnum.lawful c.args.self.now s full full'
    complete c.known.ensures known _
    (returns-else-not-starts_past_end-clause-by_position g c bounds)
