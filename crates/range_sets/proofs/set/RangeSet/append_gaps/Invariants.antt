use Rattle.std.proofs.Common.{length}
use Rattle.range_sets.proofs.Filling.{IsFilled}
use Rattle.range_sets.proofs.set.RangeSet.append_gaps.Given as goal

abbrev pub invariant-loop-gap : goal.invariant-loop-gap
invariant-loop-gap g l =
    IsFilled g.T.MaybeBounded.order l.initial.gaps l.gaps (g.C.Storage.items l.others)
    (g.C.Storage.room l.others)

abbrev pub decreases-loop-gap : goal.decreases-loop-gap
decreases-loop-gap g l = length l.gaps
