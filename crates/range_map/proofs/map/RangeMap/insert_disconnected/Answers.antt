use Rattle.range_map.proofs.Common.{OnOk, OnErr, Ok, Err, Result, List, ◌≡◌, ◌+◌, ◌≤◌, length, ap, arith, subst, common_steps, length-insert, IsBoundAfter, IsEmptyRange, IsPutInto, MeetAlso, not_both, on_ok}
use Rattle.range_edit.specs.Changes.{IsInserted}
use Rattle.range_edit.proofs.Freeing.{form_after}
use Rattle.range_map.proofs.StoredLists.{stored_canonical}
use Rattle.range_map.proofs.map.RangeMap.insert_disconnected.Goals as goal

-- putting one item in adds one
put_few : {T A E : Type 0} (r : Result A E) (before after : List T) (x : T)
    → OnOk r (IsPutInto before after x) → OnErr r (after ≡ before)
    → length after ≤ length before + 1
put_few (Ok a) before after x put same = let long = ap length put.2 in let more =
    length-insert before put.0 x put.1 in omega arith
put_few (Err e) before after x put same = let long = ap length same in omega arith

pub invariant_of-self : goal.invariant_of-self
invariant_of-self g c = grind (arith, common_steps, form_after)

pub returns : goal.returns
returns g c =
    let order = g.K.MaybeBounded.order in
    let items = g.C.Storage.items c.self.inside.stored in
    let new = g.C.Storage.items c.bind_apart.new.stored in
    let range = g.R.AsRange.range c.args.range in
    let same = g.V.PartialEq.eq in
    let done : OnOk c.bind_apart.result (IsInserted order same items new range c.args.value) =
    subst (λ r. OnOk c.bind_apart.result (IsInserted order same items new r c.args.value))
    c.into_range-range.ensures c.bind_apart.ensures.ok in
    let form = invariant_of-self g c in
    let empty_is = rw c.into_range-range.ensures at c.is_empty.ensures.by_position in
    record {
      connected = grind (arith, common_steps);
      given = grind (arith, common_steps);
      succeeds =
          λ enough apart.
          c.bind_apart.ensures.succeeds (rw (← c.self.view_is) at enough)
          (rw (← c.self.view_is, ← c.into_range-range.ensures) at apart);
      put = grind (arith, common_steps);
      bound =
          rw (← c.self.view_is) (on_ok (IsInserted order same items new range c.args.value)
          (IsBoundAfter order same items new range c.args.value) c.bind_apart.result
          (λ h. h.bound) done);
      meets =
          rw (← c.self.view_is) (on_ok (IsInserted order same items new range c.args.value)
          ((IsEmptyRange order range → ⊥) → MeetAlso order items new range) c.bind_apart.result
          (λ h full. h.meets) done);
      canonical = stored_canonical g.met.K.PartialEnum.lawful g.met.V.Eq.laws _ form;
      few = rw (← c.self.view_is)
          (put_few c.bind_apart.result _ _ _ c.bind_apart.ensures.put c.bind_apart.ensures.refused);
      refused = rw (← c.self.view_is) c.bind_apart.ensures.refused;
      empty = λ e. absurd (not_both c.if-is_empty.false (empty_is.1 e));
      empty_unchanged = λ e. absurd (not_both c.if-is_empty.false (empty_is.1 e));
    }
