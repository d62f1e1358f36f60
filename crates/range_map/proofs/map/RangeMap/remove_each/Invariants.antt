use Rattle.range_map.proofs.Common.{length, IsCanonical, IsWithout}
use Rattle.range_map.proofs.PartWay.{IsPartWay}
use Rattle.range_map.proofs.map.RangeMap.remove_each.Given as goal

abbrev pub invariant-loop-range : goal.invariant-loop-range
invariant-loop-range g l =
    let order = g.K.MaybeBounded.order in
    let same = g.V.PartialEq.eq in
    let now = g.C.Storage.items l.self in
    record {
      way : IsPartWay (λ front. IsWithout order same (g.C.Storage.items l.initial.self) front now)
          (g.D.Storage.items l.other) l.items;
      canonical : IsCanonical order same now;
    }

abbrev pub decreases-loop-range : goal.decreases-loop-range
decreases-loop-range g l = length l.items
