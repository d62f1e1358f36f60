-- The keys that a range's bounds name are its least and its greatest.
use Rattle.std.proofs.Common.{◌≡◌, refl, sym, ap, ◌∙◌, Option, Some, None, IfSome, IfNone, inl, inr, arith}
use Rattle.std.specs.declared.ops.Bound.{Bound}
use Rattle.std.specs.declared.ops.Bound.TheVariants.{Included, Excluded, Unbounded}
use Rattle.std.specs.declared.cmp.Ordering.TheVariants.{Equal}
use Rattle.std.specs.Ordering.{is_gt}
use Rattle.std.specs.Cmp.{alike_right}
use Rattle.range_keys.specs.Order.{KeyOrder, IsLawful, IsComplete, NotAbove, SameAnswer}
use Rattle.range_keys.specs.Position.{start_position, end_position}
use Rattle.range_keys.specs.PositionOrder.{position_total}
use Rattle.range_keys.specs.declared.inner.position.Position.TheVariants.{Beside}
use Rattle.range_keys.specs.declared.inner.position.Side.TheVariants.{At}
use Rattle.range_keys.proofs.Orderings.{not_greater, not_greater_unless_equal}
use Rattle.range_algebra.proofs.Completeness.{no_pred, none_is_not_some}
use Rattle.range_algebra.specs.Orders.{le_refl, lt_not_le}
use Rattle.range_algebra.specs.Range.{StartHolds, EndHolds, Holds, IsEmptyRange, IsBoundOfKey, IsKeyRange, start_key, end_key}
use Rattle.range_algebra.specs.Extremes.{IsLeastOf, IsGreatestOf, HasNoLeast, HasNoGreatest}
use Rattle.range_algebra.specs.declared.any.AnyRange.{AnyRange}
use Rattle.range_algebra.proofs.Pieces.{start_up, end_down}
use Rattle.range_algebra.proofs.Holding.{holds_by_position}

module _ {K : Type 0} (order : KeyOrder K) (lawful : IsLawful order) where
  -- a range that holds a key holds what equals it
  pub holds_congr : (r : AnyRange K) (m k : K) → order.cmp m k ≡ Equal → Holds order r m
      → Holds order r k
  holds_congr r m k e h = grind arith

  start_named : (b : Bound K) (m : K) → start_key order b ≡ Some m → IsBoundOfKey order b
      → (start_position order b ≡ Beside m At) × order.is_key m
  start_named b m e key = grind arith

  end_named : (b : Bound K) (m : K) → end_key order b ≡ Some m → IsBoundOfKey order b
      → (end_position order b ≡ Beside m At) × order.is_key m
  end_named b m e key = grind arith

  module _ (r : AnyRange K) (known : IsKeyRange order r) (full : ¬ IsEmptyRange order r) where
    least_at : (m k : K) → start_key order r.start ≡ Some m → order.cmp m k ≡ Equal
        → IsLeastOf order r k
    least_at m k e same =
        let named = start_named r.start m e known.0 in
        let itself = le_refl _ (position_total order.cmp lawful.total) (Beside m At) in
        let reach = not_greater _ full in
        let held = (holds_by_position order lawful r m named.1).1 (rw named.0 itself, rw named.0 at reach) in (
          holds_congr r m k same held,
          λ j key h.
              let near = ((holds_by_position order lawful r j key).0 h).0 in
              ap is_gt (sym (lawful.total.congr m k j same))
              ∙ not_greater_unless_equal (order.cmp m j) (rw named.0 at near),
        )

    greatest_at : (m k : K) → end_key order r.end ≡ Some m → order.cmp m k ≡ Equal
        → IsGreatestOf order r k
    greatest_at m k e same =
        let named = end_named r.end m e known.1 in
        let itself = le_refl _ (position_total order.cmp lawful.total) (Beside m At) in
        let reach = not_greater _ full in
        let held = (holds_by_position order lawful r m named.1).1 (rw named.0 at reach, rw named.0 itself) in (
          holds_congr r m k same held,
          λ j key h.
              let near = ((holds_by_position order lawful r j key).0 h).1 in
              ap is_gt (sym (alike_right lawful.total m k j same))
              ∙ not_greater_unless_equal (order.cmp j m) (rw named.0 at near),
        )

    -- what equals the key that the start names is the least
    pub first_is_least : (p : Option K) → SameAnswer order (start_key order r.start) p
        → IfSome p (IsLeastOf order r)
    first_is_least p h = grind (arith, least_at)

    pub last_is_greatest : (p : Option K) → SameAnswer order (end_key order r.end) p
        → IfSome p (IsGreatestOf order r)
    last_is_greatest p h = grind (arith, greatest_at)

  module _ (complete : IsComplete order) where
    no_least_by : (s e : Bound K) → IsBoundOfKey order s → start_key order s ≡ None → (k : K)
        → order.is_key k → StartHolds order s k → EndHolds order e k
        → ((j : K) → order.is_key j → StartHolds order s j × EndHolds order e j
        → NotAbove order k j) → ⊥
    no_least_by (Included a) e known n k key h g all = cc
    no_least_by (Excluded a) e known n k key h g all = elim (complete.next a k known key h) [
      | inl t ↦ grind arith
      | inr (c, in_type, l, u) ↦
          lt_not_le order.cmp lawful.total c k u
          (all c in_type (l, end_down order lawful e c k (ap is_gt u) g))
    ]
    no_least_by Unbounded e known n k key h g all = elim (complete.below k key) [
      | inl t ↦ none_is_not_some order.least n t
      | inr (c, in_type, l) ↦
          lt_not_le order.cmp lawful.total c k l
          (all c in_type (tt, end_down order lawful e c k (ap is_gt l) g))
    ]

    -- where the start names no key, no held key is the least
    pub no_least : (r : AnyRange K) → IsKeyRange order r → start_key order r.start ≡ None
        → HasNoLeast order r
    no_least r known n k key h = no_least_by r.start r.end known.0 n k key h.0.0 h.0.1 h.1

    no_greatest_by : (s e : Bound K) → IsBoundOfKey order e → end_key order e ≡ None → (k : K)
        → order.is_key k → StartHolds order s k → EndHolds order e k
        → ((j : K) → order.is_key j → StartHolds order s j × EndHolds order e j
        → NotAbove order j k) → ⊥
    no_greatest_by s (Included b) known n k key g h all = cc
    no_greatest_by s (Excluded b) known n k key g h all = elim (complete.next k b key known h) [
      | inl t ↦ no_pred order lawful complete k b (order.succ k) refl t n
      | inr (c, in_type, l, u) ↦
          lt_not_le order.cmp lawful.total k c l
          (all c in_type (start_up order lawful s k c (ap is_gt l) g, u))
    ]
    no_greatest_by s Unbounded known n k key g h all = elim (complete.above k key) [
      | inl t ↦ none_is_not_some order.greatest n t
      | inr (c, in_type, l) ↦
          lt_not_le order.cmp lawful.total k c l
          (all c in_type (start_up order lawful s k c (ap is_gt l) g, tt))
    ]

    pub no_greatest : (r : AnyRange K) → IsKeyRange order r → end_key order r.end ≡ None
        → HasNoGreatest order r
    no_greatest r known n k key h = no_greatest_by r.start r.end known.1 n k key h.0.0 h.0.1 h.1

  pub first_none : (r : AnyRange K) → IsComplete order → IsKeyRange order r → (p : Option K)
      → SameAnswer order (start_key order r.start) p → IfNone p (HasNoLeast order r)
  first_none r complete known p h = grind (arith, no_least)

  pub last_none : (r : AnyRange K) → IsComplete order → IsKeyRange order r → (p : Option K)
      → SameAnswer order (end_key order r.end) p → IfNone p (HasNoGreatest order r)
  last_none r complete known p h = grind (arith, no_greatest)
