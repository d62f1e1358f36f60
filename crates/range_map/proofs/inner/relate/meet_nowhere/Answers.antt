use Rattle.range_map.proofs.Common.{common_steps, arith, false≢true, MeetNowhere, not_both}
use Rattle.range_map.proofs.Together.{shorter, sets_out, apart_tells, goes_left, goes_right, not_so, none_right, none_met}
use Rattle.range_map.proofs.inner.relate.meet_nowhere.Goals as goal

pub loop-next-init : goal.loop-next-init
loop-next-init g c =
    let next = c.next-next in
    let near = c.next-near in
    sets_out g.met.K.PartialEnum.lawful (MeetNowhere g.K.MaybeBounded.order) c.iter-ranges.result
    next.new.self _ next.result c.iter-others.result near.new.self _ near.result
    c.iter-ranges.ensures.items c.iter-others.ensures.items c.iter-ranges.ensures.canonical.stored
    c.iter-others.ensures.canonical.stored next.ensures.steps near.ensures.steps

pub loop-next-preserved-then-lies_before : goal.loop-next-preserved-then-lies_before
loop-next-preserved-then-lies_before g c =
    let next = c.next-next-then-lies_before in
    goes_left c.loop-next.invariant (apart_tells g.met.K.PartialEnum.lawful) c.in-Some-Some.is-0
    c.in-Some-Some.is-1 (c.lies_before.ensures.0 c.if-lies_before.true) next.new.self next.result
    next.ensures.steps

pub loop-next-smaller-then-lies_before : goal.loop-next-smaller-then-lies_before
loop-next-smaller-then-lies_before g c =
    let next = c.next-next-then-lies_before in
    let less =
    shorter c.loop-next.ranges next.new.self c.loop-next.next next.result _ c.in-Some-Some.is-0
    next.ensures.steps in
    omega (arith, less)

pub loop-next-preserved : goal.loop-next-preserved
loop-next-preserved g c =
    let near = c.next-near-then-lies_before-2 in
    goes_right c.loop-next.invariant (apart_tells g.met.K.PartialEnum.lawful) c.in-Some-Some.is-0
    c.in-Some-Some.is-1 (c.lies_before-else-lies_before.ensures.0 c.if-lies_before-2.true)
    near.new.self near.result near.ensures.steps

pub loop-next-smaller : goal.loop-next-smaller
loop-next-smaller g c =
    let near = c.next-near-then-lies_before-2 in
    let less =
    shorter c.loop-next.others near.new.self c.loop-next.near near.result _ c.in-Some-Some.is-1
    near.ensures.steps in
    omega (arith, less)

pub returns-else-lies_before-2 : goal.returns-else-lies_before-2
returns-else-lies_before-2 g c = (
  λ e. absurd (false≢true e),
  λ h.
      absurd (not_so c.loop-next.invariant (apart_tells g.met.K.PartialEnum.lawful)
      c.in-Some-Some.is-0 c.in-Some-Some.is-1 (λ is. not_both c.if-lies_before.false (c.lies_before.ensures.1 is))
      (λ is. not_both c.if-lies_before-2.false (c.lies_before-else-lies_before.ensures.1 is)) h),
)

pub returns-in_default : goal.returns-in_default
returns-in_default g c = grind (arith, common_steps, none_right, none_met)
