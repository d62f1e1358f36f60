use Rattle.range_map.proofs.Common.{arith, false≢true, LieInside, not_both}
use Rattle.range_map.proofs.Together.{shorter, sets_out, inside_tells, goes_left, goes_right, not_so}
use Rattle.range_map.proofs.inner.relate.lie_inside.Goals as goal

pub loop-next-init : goal.loop-next-init
loop-next-init g c =
    let next = c.next-next in
    let near = c.next-near in
    sets_out g.met.K.PartialEnum.lawful (LieInside g.K.MaybeBounded.order) c.iter-ranges.result
    next.new.self _ next.result c.iter-others.result near.new.self _ near.result
    c.iter-ranges.ensures.items c.iter-others.ensures.items c.iter-ranges.ensures.canonical.stored
    c.iter-others.ensures.canonical.stored next.ensures.steps near.ensures.steps

pub loop-next-preserved-then-lies_in : goal.loop-next-preserved-then-lies_in
loop-next-preserved-then-lies_in g c =
    let next = c.next-next-then-lies_in in
    goes_left c.loop-next.invariant (inside_tells g.met.K.PartialEnum.lawful) c.in-Some-Some.is-0
    c.in-Some-Some.is-1 (c.lies_in.ensures.0 c.if-lies_in.true) next.new.self next.result
    next.ensures.steps

pub loop-next-smaller-then-lies_in : goal.loop-next-smaller-then-lies_in
loop-next-smaller-then-lies_in g c =
    let next = c.next-next-then-lies_in in
    let less =
    shorter c.loop-next.ranges next.new.self c.loop-next.next next.result _ c.in-Some-Some.is-0
    next.ensures.steps in
    omega (arith, less)

pub loop-next-preserved : goal.loop-next-preserved
loop-next-preserved g c =
    let near = c.next-near-then-lies_before in
    goes_right c.loop-next.invariant (inside_tells g.met.K.PartialEnum.lawful) c.in-Some-Some.is-0
    c.in-Some-Some.is-1 (c.lies_before.ensures.0 c.if-lies_before.true) near.new.self near.result
    near.ensures.steps

pub loop-next-smaller : goal.loop-next-smaller
loop-next-smaller g c =
    let near = c.next-near-then-lies_before in
    let less =
    shorter c.loop-next.others near.new.self c.loop-next.near near.result _ c.in-Some-Some.is-1
    near.ensures.steps in
    omega (arith, less)

pub returns-else-lies_before : goal.returns-else-lies_before
returns-else-lies_before g c = (
  λ e. absurd (false≢true e),
  λ h.
      absurd (not_so c.loop-next.invariant (inside_tells g.met.K.PartialEnum.lawful)
      c.in-Some-Some.is-0 c.in-Some-Some.is-1 (λ is. not_both c.if-lies_in.false (c.lies_in.ensures.1 is))
      (λ is. not_both c.if-lies_before.false (c.lies_before.ensures.1 is)) h),
)
