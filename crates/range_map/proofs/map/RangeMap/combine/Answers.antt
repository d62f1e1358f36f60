use Rattle.std.proofs.lemmas.Bool.{cases_lt}
use Rattle.range_map.proofs.Common.{arith, inl, inr, length, false≢true, error_has_no_value}
use Rattle.range_map.proofs.ClosureAnswers.{memory_is_no_closure}
use Rattle.range_merge.proofs.Combination.{pieces_combine}
use Rattle.range_map.proofs.map.RangeMap.combine.Goals as goal

pub returns-clause-bound : goal.returns-clause-bound
returns-clause-bound g c =
    rw c.in_ok-map_of.ensures.items (pieces_combine g.met.K.PartialEnum.lawful g.met.V.Eq.laws
    g.met.W.Eq.laws c.in_ok-answers.ensures.combined)

pub returns-in_err-map_of : goal.returns-in_err-map_of
returns-in_err-map_of g c =
    let left = c.from_residual-in_err-map_of in
    record {
      bound = error_has_no_value _ left.result left.ensures.0;
      pieces = error_has_no_value _ left.result left.ensures.0;
      canonical = error_has_no_value _ left.result left.ensures.0;
      closure = λ e failed. absurd (memory_is_no_closure left.result e left.ensures.1 failed);
      memory = λ failed.
          elim (cases_lt 0 (length c.in_ok-answers.answers.items)) [
            | inl some ↦ c.in_ok-answers.ensures.some some
            | inr none ↦
                absurd (false≢true (c.in_err-map_of.ensures.none_needed (omega (arith, none))))
          ];
    }
