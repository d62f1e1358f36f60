use Rattle.range_reads.proofs.Common.{refl, ◌∙◌}
use Rattle.range_reads.proofs.gaps_within.next_free.Goals as goal

pub returns-in-None-clause-next : goal.returns-in-None-clause-next
returns-in-None-clause-next g c =
    c.loop-range.invariant ∙ rw (c.in-Some.ensures.steps, c.in-None.is) refl

pub loop-range-preserved : goal.loop-range-preserved
loop-range-preserved g c =
    c.loop-range.invariant ∙ rw (c.in-Some.ensures.steps, c.in-Some-value.is) refl
