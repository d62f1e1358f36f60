use Rattle.std.proofs.Common.{map}
use Rattle.range_set_extend.specs.KeySets.{HoldsAllAlso, IsCanonicalSet}
use Rattle.range_set_extend.proofs.extend.extend.Given as goal

abbrev pub invariant-loop-range : goal.invariant-loop-range
invariant-loop-range g l =
    record {
      can : (goal.iterator-loop-range g).can_next l.range-iterator;
      ends : (goal.iterator-loop-range g).is_finite l.range-iterator;
      added : HoldsAllAlso g.T.MaybeBounded.order (g.C.Storage.items l.initial.set)
          (g.C.Storage.items l.set) (map g.R.AsRange.range l.yielded);
      canonical : IsCanonicalSet g.T.MaybeBounded.order (g.C.Storage.items l.set);
    }
