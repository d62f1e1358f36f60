use Rattle.range_map.proofs.Common.{arith, common_steps, Holds, bound_at, not_both, All-more}
use Rattle.range_map.proofs.Scans.{none_holds}
use Rattle.range_map.proofs.inner.scan.scan.Goals as goal

pub returns-then-holds : goal.returns-then-holds
returns-then-holds g c =
    grind (arith, common_steps, bound_at, g.met.K.PartialEnum.lawful, g.met.V.Eq.laws)

pub loop-item-preserved : goal.loop-item-preserved
loop-item-preserved g c =
    All-more (λ i. ¬ Holds g.K.MaybeBounded.order i.key c.args.key.now) c.args.items.now
    c.loop-item.item-index c.item-item.result c.loop-item-test.true c.loop-item.invariant
    (rw (← c.item-item.is) (λ h. not_both c.if-holds.false (c.holds.ensures.held.1 h)))

pub returns : goal.returns
returns g c =
    none_holds g.K.MaybeBounded.order c.args.items.now c.loop-item.item-index c.args.key.now
    c.loop-item-test.false c.loop-item.invariant
