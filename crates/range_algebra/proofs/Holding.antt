-- A range holds the keys whose positions lie from its start to its end.
use Rattle.std.proofs.Common.{◌≡◌, refl, sym, ap, ◌∙◌, ◌↔◌, Option, Some, None, true, false, arith}
use Rattle.std.specs.declared.ops.Bound.{Bound}
use Rattle.std.specs.declared.ops.Bound.TheVariants.{Excluded}
use Rattle.std.specs.declared.cmp.Ordering.{Ordering}
use Rattle.std.specs.Ordering.{is_ge, is_gt, is_le, is_lt}
use Rattle.std.specs.Range.Bound.{bounds_contain}
use Rattle.std.specs.Cmp.{upto}
use Rattle.range_keys.specs.Order.{KeyOrder, IsLawful, Below, NotAbove, Tells}
use Rattle.range_keys.specs.Position.{start_position, end_position, position_cmp, at_known}
use Rattle.range_keys.specs.PositionOrder.{position_total}
use Rattle.range_algebra.specs.Range.{StartHolds, EndHolds, Holds, IsKeyless, IsEmptyRange, LiesWithin}
use Rattle.range_keys.specs.declared.inner.position.Position.TheVariants.{Beside}
use Rattle.range_keys.specs.declared.inner.position.Side.TheVariants.{Before, At}
use Rattle.range_algebra.specs.declared.any.AnyRange.{AnyRange}

module _ {K : Type 0} (order : KeyOrder K) (lawful : IsLawful order) where
  pub start_holds : (b : Bound K) (k : K) → order.is_key k → StartHolds order b k
      ↔ is_gt (position_cmp order.cmp (start_position order b) (Beside k At)) ≡ false
  start_holds b k key = grind arith

  pred_below_by : (a b : K) (o : Option K) → order.succ a ≡ o → Tells order o b → Below order a b
  pred_below_by a b o e h = grind arith

  pub pred_below : (a b : K) → order.pred b ≡ Some a → Below order a b
  pred_below a b e = pred_below_by a b (order.succ a) refl (lawful.pred_succ a b e)

  not_after_by : (a b k : K) (o : Option K) → order.succ a ≡ o → Tells order o b → order.is_key k
      → Below order k b → (r : Ordering) → order.cmp k a ≡ r → is_gt r ≡ false
  not_after_by a b k o e t key h r f = grind arith

  -- no key lies between a told neighbour and the key that it is told for
  pub not_after : (a b k : K) → order.pred b ≡ Some a → order.is_key k → Below order k b
      → NotAbove order k a
  not_after a b k e key h =
      not_after_by a b k (order.succ a) refl (lawful.pred_succ a b e) key h (order.cmp k a) refl

  end_told : (b k : K) (o : Option K) → order.pred b ≡ o → order.is_key k
      → EndHolds order (Excluded b) k
      ↔ is_gt (position_cmp order.cmp (Beside k At) (at_known o (Beside b Before))) ≡ false
  end_told b k o e key = grind (arith, not_after, pred_below)

  pub end_holds : (b : Bound K) (k : K) → order.is_key k → EndHolds order b k
      ↔ is_gt (position_cmp order.cmp (Beside k At) (end_position order b)) ≡ false
  end_holds b k key = grind (arith, end_told)

  told_end_before : (b k : K) (o : Option K) → order.pred b ≡ o → order.is_key k
      → is_lt (position_cmp order.cmp (at_known o (Beside b Before)) (Beside k At))
      ≡ is_le (order.cmp b k)
  told_end_before b k None e key = grind arith
  told_end_before b k (Some a) e key = grind (arith, not_after, pred_below)

  -- an excluded end lies before the keys that are not below its own
  pub excluded_end_before : (b k : K) → order.is_key k
      → is_lt (position_cmp order.cmp (end_position order (Excluded b)) (Beside k At))
      ≡ is_le (order.cmp b k)
  excluded_end_before b k key = told_end_before b k (order.pred b) refl key

  past_told_end : (b k : K) (o : Option K) → order.pred b ≡ o → order.is_key k
      → is_gt (position_cmp order.cmp (Beside k At) (at_known o (Beside b Before)))
      ≡ is_ge (order.cmp k b)
  past_told_end b k None e key = grind arith
  past_told_end b k (Some a) e key = grind (arith, not_after, pred_below)

  -- and the keys that are not below its own lie past it
  pub past_excluded_end : (b k : K) → order.is_key k
      → is_gt (position_cmp order.cmp (Beside k At) (end_position order (Excluded b)))
      ≡ is_ge (order.cmp k b)
  past_excluded_end b k key = past_told_end b k (order.pred b) refl key

  -- the position of a held key lies from the start to the end
  pub holds_by_position : (r : AnyRange K) (k : K) → order.is_key k → Holds order r k
      ↔ LiesWithin order r k
  holds_by_position r k key = grind (arith, end_holds)

  pub empty_is_keyless : (r : AnyRange K) → IsEmptyRange order r → IsKeyless order r
  empty_is_keyless r e k key h =
      let within : LiesWithin order r k = (holds_by_position r k key).0 h in
      let chain : is_gt (position_cmp order.cmp (start_position order r.start)
      (end_position order r.end))
      ≡ false = upto (position_total order.cmp lawful.total) _ _ _ within.0 within.1 in
      let clash : false ≡ true = sym chain ∙ ap is_gt e in
      cc

-- what std's `contains` answers
module _ {K : Type 0} (order : KeyOrder K) (partial_cmp : K → K → Option Ordering)
    (agrees : (a b : K) → partial_cmp a b ≡ Some (order.cmp a b)) where
  pub contains_is_held : (r : AnyRange K) (k : K)
      → bounds_contain partial_cmp r.start r.end k ≡ true ↔ Holds order r k
  contains_is_held r k = grind arith
