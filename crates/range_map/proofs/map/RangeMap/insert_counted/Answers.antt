use Rattle.range_map.proofs.Common.{refl, arith, false≢true, common_steps, error_has_no_value, on_error, not_both}
use Rattle.range_map.proofs.StoredLists.{stored_canonical}
use Rattle.range_map.proofs.map.RangeMap.insert_counted.Goals as goal

pub returns : goal.returns
returns g c =
    let range = c.into_range-range.ensures in
    let done = c.in_ok-bind.ensures.ok in
    let empty_is = rw range at c.is_empty.ensures.by_position in
    record {
      succeeds = λ keys values enough. refl;
      bound = rw (← c.self.view_is) (rw range at done.bound);
      canonical = stored_canonical g.met.K.PartialEnum.lawful g.met.V.Eq.laws _ done.stored;
      frame = λ full. rw (← c.self.view_is) (rw range at done.frame);
      meets = λ full. rw (← c.self.view_is) (rw range at done.meets);
      few = grind (arith, common_steps);
      refused = tt;
      empty = λ _. refl;
      empty_unchanged = λ e. absurd (not_both c.if-is_empty.false (empty_is.1 e));
      most = rw (← c.self.view_is) c.in_ok-bind.ensures.most;
      least = λ _. rw (← c.self.view_is) c.bind.ensures.least;
      empty_uncounted = λ e. absurd (not_both c.if-is_empty.false (empty_is.1 e));
    }

pub returns-in_err-bind : goal.returns-in_err-bind
returns-in_err-bind g c =
    let empty_is = rw c.into_range-range.ensures at c.is_empty.ensures.by_position in
    let canonical = rw (← c.self.view_is, ← c.in_err-bind.ensures.refused) at c.in_form.ensures.canonical in
    record {
      succeeds =
          λ keys values enough.
          absurd (false≢true (c.in_err-bind.ensures.succeeds keys values
          (rw (← c.self.view_is) at enough)));
      bound = error_has_no_value _ c.from_residual.result c.from_residual.ensures.0;
      canonical = canonical;
      frame = error_has_no_value _ c.from_residual.result c.from_residual.ensures.0;
      meets = error_has_no_value _ c.from_residual.result c.from_residual.ensures.0;
      few = grind (arith, common_steps);
      refused =
          on_error _ c.from_residual.result (rw (← c.self.view_is) c.in_err-bind.ensures.refused);
      empty = λ e. absurd (not_both c.if-is_empty.false (empty_is.1 e));
      empty_unchanged = λ e. absurd (not_both c.if-is_empty.false (empty_is.1 e));
      most = error_has_no_value _ c.from_residual.result c.from_residual.ensures.0;
      least = λ _. rw (← c.self.view_is) c.bind.ensures.least;
      empty_uncounted = λ e. absurd (not_both c.if-is_empty.false (empty_is.1 e));
    }
