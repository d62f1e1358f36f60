use Rattle.range_map.proofs.Common.{OnOk, arith, subst, common_steps, IsEmptyRange, IsBoundAfter, MeetAlso, not_both, IsInsertionFrame, on_ok}
use Rattle.range_edit.specs.Changes.{IsInserted}
use Rattle.range_edit.proofs.Freeing.{form_after}
use Rattle.range_map.proofs.StoredLists.{stored_canonical}
use Rattle.range_map.proofs.map.RangeMap.try_insert.Goals as goal

pub returns : goal.returns
returns g c =
    let order = g.K.MaybeBounded.order in
    let same = g.V.PartialEq.eq in
    let items = g.C.Storage.items c.self.inside.stored in
    let new = g.C.Storage.items c.bind_where_free.new.stored in
    let range = g.R.AsRange.range c.args.range in
    let done : OnOk c.bind_where_free.result (IsInserted order same items new range c.args.value) =
    subst (λ r. OnOk c.bind_where_free.result (IsInserted order same items new r c.args.value))
    c.into_range-range.ensures c.bind_where_free.ensures.ok in
    let form =
    form_after order same c.bind_where_free.result items new c.into_range-range.result
    c.args.value c.bind_where_free.ensures.ok c.bind_where_free.ensures.refused c.self.invariant in
    let empty_is = rw c.into_range-range.ensures at c.is_empty.ensures.by_position in
    record {
      occupied = grind (arith, common_steps);
      given = grind (arith, common_steps);
      succeeds =
          λ enough unmet.
          c.bind_where_free.ensures.succeeds (rw (← c.self.view_is) at enough)
          (rw (← c.self.view_is, ← c.into_range-range.ensures) at unmet);
      bound =
          rw (← c.self.view_is) (on_ok (IsInserted order same items new range c.args.value)
          (IsBoundAfter order same items new range c.args.value) c.bind_where_free.result
          (λ h. h.bound) done);
      frame =
          rw (← c.self.view_is) (on_ok (IsInserted order same items new range c.args.value)
          ((IsEmptyRange order range → ⊥)
          → IsInsertionFrame order same items new range c.args.value)
          c.bind_where_free.result (λ h full. h.frame) done);
      meets =
          rw (← c.self.view_is) (on_ok (IsInserted order same items new range c.args.value)
          ((IsEmptyRange order range → ⊥) → MeetAlso order items new range)
          c.bind_where_free.result (λ h full. h.meets) done);
      canonical = stored_canonical g.met.K.PartialEnum.lawful g.met.V.Eq.laws _ form;
      refused = rw (← c.self.view_is) c.bind_where_free.ensures.refused;
      empty = λ e. absurd (not_both c.if-is_empty.false (empty_is.1 e));
      empty_unchanged = λ e. absurd (not_both c.if-is_empty.false (empty_is.1 e));
    }
