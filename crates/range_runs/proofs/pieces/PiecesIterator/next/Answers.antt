use Rattle.range_runs.proofs.Common.{range_of, bound_of, ap, arith, length, sym, ◌∙◌, option_map}
use Rattle.range_runs.proofs.PieceSteps.{gap_first}
use Rattle.range_runs.proofs.pieces.PiecesIterator.next.Goals as goal

pub returns-in-Some-range_between : goal.returns-in-Some-range_between
returns-in-Some-range_between g c =
    let steps = sym c.self.view_is ∙ gap_first g.met.K.PartialEnum.lawful
    (range_of c.self.inside.range) (option_map bound_of c.self.inside.start)
    (option_map bound_of c.self.inside.end) (range_of c.in-Some-range_between.gap) _
    (sym c.duplicate-rest.ensures ∙ c.in-Some.ensures.steps) c.known.ensures
    (rw (c.in-Some-range_between.is, c.flip.ensures, c.start_bound.ensures tt) at
    c.range_between-in-Some.ensures) (c.start_bound-in-Some-range_between.ensures tt) in
    let less = ap length steps in
    record {
      steps = steps;
      goes = record { on = λ _. (tt, tt, omega (arith, less)); keeps = tt; rests = λ _. tt };
    }
