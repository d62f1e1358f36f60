use Rattle.range_reads.proofs.Common.{◌∙◌, append-nil, free_ranges}
use Rattle.range_reads.proofs.FreeRanges.{free_append}
use Rattle.range_reads.proofs.gaps_within.last_free.Goals as goal

pub returns-in-None-clause-next : goal.returns-in-None-clause-next
returns-in-None-clause-next g c =
    c.loop-range.invariant
    ∙ rw (c.in-Some.ensures.steps, c.in-None.is) (free_append c.next_back.new.self _)

pub loop-range-preserved : goal.loop-range-preserved
loop-range-preserved g c =
    c.loop-range.invariant
    ∙ rw (c.in-Some.ensures.steps, c.in-Some-value.is)
    (free_append c.next_back.new.self _ ∙ append-nil (free_ranges c.next_back.new.self))
