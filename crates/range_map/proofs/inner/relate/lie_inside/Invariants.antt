use Rattle.range_map.proofs.Common.{◌+◌, length, LieInside}
use Rattle.range_map.proofs.Together.{IsPass, ahead}
use Rattle.range_map.proofs.inner.relate.lie_inside.Given as goal

abbrev pub invariant-loop-next : goal.invariant-loop-next
invariant-loop-next g l =
    IsPass g.K.MaybeBounded.order (LieInside g.K.MaybeBounded.order) (g.C.Storage.items l.map)
    (g.D.Storage.items l.other) l.next l.ranges l.near l.others

abbrev pub decreases-loop-next : goal.decreases-loop-next
decreases-loop-next g l = length (ahead l.next l.ranges) + length (ahead l.near l.others)
