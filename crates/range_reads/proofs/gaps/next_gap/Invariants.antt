use Rattle.range_reads.proofs.Common.{◌≡◌, length, free_after}
use Rattle.range_reads.proofs.gaps.next_gap.Given as goal

abbrev pub invariant-loop-range : goal.invariant-loop-range
invariant-loop-range g l =
    free_after g.K.MaybeBounded.order l.initial.from l.initial.items
    ≡ free_after g.K.MaybeBounded.order l.from l.items

abbrev pub decreases-loop-range : goal.decreases-loop-range
decreases-loop-range g l = length l.items
