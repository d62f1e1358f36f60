use Rattle.std.proofs.Common.{length}
use Rattle.range_multimaps.specs.Pairs.{HasPairsOfFirstAlone}
use Rattle.range_map.proofs.PartWay.{IsPartWay}
use Rattle.range_multimaps.proofs.multimap.RangeMultiMap.difference.Given as goal

abbrev pub invariant-loop-range : goal.invariant-loop-range
invariant-loop-range g l =
    IsPartWay (λ done. HasPairsOfFirstAlone g.K.MaybeBounded.order g.S.SetMut.has
    (g.C.Storage.items l.self) done (g.C.Storage.items l.new)) (g.D.Storage.items l.other) l.items

abbrev pub decreases-loop-range : goal.decreases-loop-range
decreases-loop-range g l = length l.items
