use Rattle.range_runs.proofs.Common.{flipped, range_of, bound_of, ap, sym, ◌∙◌, option_map}
use Rattle.range_runs.proofs.PieceSteps.{gap_last, item_last, last_is_less}
use Rattle.range_runs.proofs.pieces.PiecesDoubleEndedIterator.next_back.Goals as goal

pub returns-in-Some-range_between : goal.returns-in-Some-range_between
returns-in-Some-range_between g c =
    let steps = sym c.self.view_is ∙ gap_last g.met.K.PartialEnum.lawful
    (range_of c.self.inside.range) (option_map bound_of c.self.inside.start)
    (option_map bound_of c.self.inside.end) _ _
    (sym c.duplicate-rest.ensures ∙ c.in-Some.ensures.steps) (range_of c.in-Some-range_between.gap)
    _ c.known.ensures (rw (c.in-Some-range_between.is, c.flip.ensures, c.end_bound.ensures tt) at
    c.range_between-in-Some.ensures) (c.end_bound-in-Some-range_between.ensures tt) in
    let less = last_is_less _ _ _ steps in
    record {
      steps = steps;
      goes = record { on = λ _. (tt, tt, less); keeps = tt; rests = λ _. tt };
    }

pub returns-in-None-range_between : goal.returns-in-None-range_between
returns-in-None-range_between g c =
    let steps = sym c.self.view_is ∙ item_last g.met.K.PartialEnum.lawful
    (range_of c.self.inside.range) (option_map bound_of c.self.inside.start)
    (option_map bound_of c.self.inside.end) _ _
    (sym c.duplicate-rest.ensures ∙ c.in-Some.ensures.steps) _ _
    (rw (c.in-None-range_between.is, c.flip.ensures, c.end_bound.ensures tt) at
    c.range_between-in-Some.ensures) (c.flip-self-inside.ensures ∙ ap flipped
    (c.start_bound.ensures tt)) c.clipped.ensures in
    let less = last_is_less _ _ _ steps in
    record {
      steps = steps;
      goes = record { on = λ _. (tt, tt, less); keeps = tt; rests = λ _. tt };
    }
