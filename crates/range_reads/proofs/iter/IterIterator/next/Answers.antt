use Rattle.std.proofs.Common.{◌<◌, length, ap, sym, ◌∙◌, arith}
use Rattle.range_reads.proofs.Chunks.{from_run, from_chunk, next_iterator, next_steps}
use Rattle.range_reads.proofs.iter.IterIterator.next.Goals as goal
use Rattle.range_reads.proofs.iter.IterIterator.next.Goals.{in-Some, in-None+in-Some-front}

pub invariant_of-self : goal.invariant_of-self
invariant_of-self g c =
    let some : 0 < c.self.inside.left = omega (arith, c.if-self-eq0.false) in
    elim c.match-next.branch [
      | in-Some w ↦
          rw w.self-inside-is
          (next_iterator c.self.invariant some _ _ _
          (from_run c.self.invariant some _ _ w.in-Some.ensures))
      | in-None+in-Some-front w ↦
          rw w.self-inside-is
          (next_iterator c.self.invariant some _ _ _
          (from_chunk c.self.invariant some w.in-Some-front.p _ _ _ (ap length w.in-None.ensures.0)
          w.in-Some-front.is w.chunk_from-chunk.ensures.first w.chunk_from-chunk.ensures.rest
          w.chunk_from-chunk.ensures.after))
    ]

pub returns-clause-steps : goal.returns-clause-steps
returns-clause-steps g c =
    let some : 0 < c.self.inside.left = omega (arith, c.if-self-eq0.false) in
    elim c.match-next.branch [
      | in-Some w ↦
          rw (w.self-inside-is, w.item-is)
          (sym c.self.view_is ∙ next_steps c.self.invariant some _ _ _
          (from_run c.self.invariant some _ _ w.in-Some.ensures))
      | in-None+in-Some-front w ↦
          rw (w.self-inside-is, w.item-is)
          (sym c.self.view_is ∙ next_steps c.self.invariant some _ _ _
          (from_chunk c.self.invariant some w.in-Some-front.p _ _ _ (ap length w.in-None.ensures.0)
          w.in-Some-front.is w.chunk_from-chunk.ensures.first w.chunk_from-chunk.ensures.rest
          w.chunk_from-chunk.ensures.after))
    ]

pub returns-clause-goes : goal.returns-clause-goes
returns-clause-goes g c =
    let some : 0 < c.self.inside.left = omega (arith, c.if-self-eq0.false) in
    elim c.match-next.branch [
      | in-Some w ↦
          let steps =
          next_steps c.self.invariant some _ _ _
          (from_run c.self.invariant some _ _ w.in-Some.ensures)
          in
          rw (w.self-inside-is, ← c.self.view_is) (record {
            on = λ _. (tt, tt, omega (arith, ap length steps));
            keeps = tt;
            rests = λ _. tt;
          })
      | in-None+in-Some-front w ↦
          let steps =
          next_steps c.self.invariant some _ _ _
          (from_chunk c.self.invariant some w.in-Some-front.p _ _ _ (ap length w.in-None.ensures.0)
          w.in-Some-front.is w.chunk_from-chunk.ensures.first w.chunk_from-chunk.ensures.rest
          w.chunk_from-chunk.ensures.after) in
          rw (w.self-inside-is, ← c.self.view_is) (record {
            on = λ _. (tt, tt, omega (arith, ap length steps));
            keeps = tt;
            rests = λ _. tt;
          })
    ]
