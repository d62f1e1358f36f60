use Rattle.range_map.proofs.Common.{map, AreBoundAfter, item_of, IsCanonical}
use Rattle.range_map.proofs.map.RangeMap.extend.Given as goal

abbrev pub invariant-loop-range : goal.invariant-loop-range
invariant-loop-range g l =
    let items = g.C.Storage.items in
    record {
      can : (goal.iterator-loop-range g).can_next l.range-iterator;
      ends : (goal.iterator-loop-range g).is_finite l.range-iterator;
      bound : AreBoundAfter g.K.MaybeBounded.order g.V.PartialEq.eq (items l.initial.self)
          (items l.self) (map (item_of g.R.AsRange.range) l.yielded);
      canonical : IsCanonical g.K.MaybeBounded.order g.V.PartialEq.eq (items l.self);
    }
