use Rattle.range_map.proofs.Common.{take, All, Holds}
use Rattle.range_map.proofs.inner.scan.scan.Given as goal

abbrev pub invariant-loop-item : goal.invariant-loop-item
invariant-loop-item g l =
    All (λ i. ¬ Holds g.K.MaybeBounded.order i.key l.key) (take l.item-index l.items)
