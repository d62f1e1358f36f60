use Rattle.range_map.proofs.Common.{refl, false≢true, error_has_no_value, on_error, not_both}
use Rattle.range_map.proofs.StoredLists.{stored_canonical}
use Rattle.range_map.proofs.map.RangeMap.insert.Goals as goal

pub returns : goal.returns
returns g c =
    let range = c.into_range-range.ensures in
    let done = c.in_ok-bind_in_order.ensures.ok in
    let empty_is = rw range at c.is_empty.ensures.by_position in
    record {
      succeeds = λ keys values enough. refl;
      meets = λ full. rw (← c.self.view_is) (rw range at done.meets);
      canonical = stored_canonical g.met.K.PartialEnum.lawful g.met.V.Eq.laws _ done.stored;
      bound = rw (← c.self.view_is) (rw range at done.bound);
      empty = λ _. refl;
      empty_unchanged = λ e. absurd (not_both c.if-is_empty.false (empty_is.1 e));
      few = rw (← c.self.view_is) c.bind_in_order.ensures.few;
      frame = λ full. rw (← c.self.view_is) (rw range at done.frame);
      refused = tt;
    }

pub returns-in_err-bind_in_order : goal.returns-in_err-bind_in_order
returns-in_err-bind_in_order g c =
    let empty_is = rw c.into_range-range.ensures at c.is_empty.ensures.by_position in
    let same = c.in_err-bind_in_order.ensures.refused in
    let canonical = rw (← c.self.view_is, ← same) at c.in_form.ensures.canonical in
    record {
      succeeds =
          λ keys values enough.
          absurd (false≢true (c.in_err-bind_in_order.ensures.succeeds keys values
          (rw (← c.self.view_is) at enough)));
      bound = error_has_no_value _ c.from_residual.result c.from_residual.ensures.0;
      canonical = canonical;
      frame = error_has_no_value _ c.from_residual.result c.from_residual.ensures.0;
      meets = error_has_no_value _ c.from_residual.result c.from_residual.ensures.0;
      few = rw (← c.self.view_is) c.bind_in_order.ensures.few;
      refused = on_error _ c.from_residual.result (rw (← c.self.view_is) same);
      empty = λ e. absurd (not_both c.if-is_empty.false (empty_is.1 e));
      empty_unchanged = λ e. absurd (not_both c.if-is_empty.false (empty_is.1 e));
    }
