use Rattle.range_map.proofs.Common.{length, IsCanonical, AreUnboundAfter}
use Rattle.range_map.proofs.PartWay.{IsPartWay}
use Rattle.range_map.proofs.map.RangeMap.remove_gaps.Given as goal

abbrev pub invariant-loop-gap : goal.invariant-loop-gap
invariant-loop-gap g l =
    let order = g.K.MaybeBounded.order in
    let same = g.V.PartialEq.eq in
    let now = g.C.Storage.items l.self in
    record {
      way : IsPartWay (AreUnboundAfter order same (g.C.Storage.items l.initial.self) now)
          l.initial.gaps l.gaps;
      canonical : IsCanonical order same now;
    }

abbrev pub decreases-loop-gap : goal.decreases-loop-gap
decreases-loop-gap g l = length l.gaps
