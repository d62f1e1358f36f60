use Rattle.range_reads.proofs.Common.{◌≡◌, length, free_ranges}
use Rattle.range_reads.proofs.gaps_within.last_free.Given as goal

abbrev pub invariant-loop-range : goal.invariant-loop-range
invariant-loop-range g l = free_ranges l.initial.pieces ≡ free_ranges l.pieces

abbrev pub decreases-loop-range : goal.decreases-loop-range
decreases-loop-range g l = length l.pieces
