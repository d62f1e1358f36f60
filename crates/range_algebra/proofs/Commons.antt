-- Which keys the common part and the hull of two ranges hold.
use Rattle.std.proofs.Common.{◌≡◌, refl, ap, ◌∙◌, ◌↔◌, ◌⊎◌, inl, inr, if◌then◌else◌, arith, rules}
use Rattle.std.specs.declared.ops.Bound.{Bound}
use Rattle.std.specs.declared.cmp.Ordering.{Ordering}
use Rattle.std.specs.declared.cmp.Ordering.TheVariants.{Greater}
use Rattle.std.specs.Ordering.{is_lt, is_gt, ordering_reverse}
use Rattle.std.specs.Cmp.{IsTotalOrder}
use Rattle.range_keys.specs.Order.{KeyOrder, IsLawful}
use Rattle.range_keys.specs.Position.{start_position, end_position, position_cmp}
use Rattle.range_keys.specs.PositionOrder.{position_total}
use Rattle.range_keys.specs.declared.inner.position.Position.{Position}
use Rattle.range_keys.specs.declared.inner.position.Position.TheVariants.{Beside}
use Rattle.range_keys.specs.declared.inner.position.Side.TheVariants.{At}
use Rattle.range_algebra.specs.declared.any.AnyRange.{AnyRange}
use Rattle.range_algebra.specs.Intervals.{Le}
use Rattle.range_algebra.specs.Orders.{le_refl, lt_le, eq_ge, le_trans}
use Rattle.range_algebra.specs.Range.{StartHolds, EndHolds, Holds, IsKeyRange}
use Rattle.range_algebra.specs.Combined.{later_start, earlier_end, earlier_start, later_end, common}
use Rattle.range_algebra.proofs.Holding.{start_holds, end_holds}

module _ {L : Type 0} (cmp : L → L → Ordering) (total : IsTotalOrder cmp) where
  -- what is greater the other way round is at most
  pub gt_le : (p q : L) → cmp p q ≡ Greater → Le cmp q p
  gt_le p q e = ap is_gt (total.antisymm q p ∙ ap ordering_reverse e)

module _ {K : Type 0} (order : KeyOrder K) (lawful : IsLawful order) where
  abbrev pub places : Position K → Position K → Ordering
  places = position_cmp order.cmp

  module _ (a b : Bound K) where
    later_by : (o : Ordering) → places (start_position order a) (start_position order b) ≡ o
        → Le places (start_position order a) (start_position order (if is_lt o then b else a))
        × Le places (start_position order b) (start_position order (if is_lt o then b else a))
    later_by o e = grind (arith, position_total)

    -- both starts are at most the later
    pub later_over : Le places (start_position order a)
        (start_position order (later_start order a b))
        × Le places (start_position order b) (start_position order (later_start order a b))
    later_over = later_by (places (start_position order a) (start_position order b)) refl

    earlier_by : (o : Ordering) → places (end_position order a) (end_position order b) ≡ o
        → Le places (end_position order (if is_gt o then b else a)) (end_position order a)
        × Le places (end_position order (if is_gt o then b else a)) (end_position order b)
    earlier_by o e = grind arith

    -- the earlier is at most both ends
    pub earlier_under : Le places (end_position order (earlier_end order a b))
        (end_position order a)
        × Le places (end_position order (earlier_end order a b)) (end_position order b)
    earlier_under = earlier_by (places (end_position order a) (end_position order b)) refl

    -- the later start, and the earlier end, are one of the two
    later_is_by : (P : Bound K → Type 0) (o : Ordering) → P a → P b → P (if is_lt o then b else a)
    later_is_by P o h k = grind arith

    pub later_is : (P : Bound K → Type 0) → P a → P b → P (later_start order a b)
    later_is P h k = later_is_by P (places (start_position order a) (start_position order b)) h k

    earlier_is_by : (P : Bound K → Type 0) (o : Ordering) → P a → P b → P (if is_gt o then b else a)
    earlier_is_by P o h k = grind arith

    pub earlier_is : (P : Bound K → Type 0) → P a → P b → P (earlier_end order a b)
    earlier_is P h k = earlier_is_by P (places (end_position order a) (end_position order b)) h k

    -- the earlier start is at most both starts
    first_by : (o : Ordering) → places (start_position order a) (start_position order b) ≡ o
        → Le places (start_position order (if is_lt o then a else b)) (start_position order a)
        × Le places (start_position order (if is_lt o then a else b)) (start_position order b)
    first_by o e = search (rules, position_total, le_refl, lt_le, eq_ge, gt_le)

    pub first_under : Le places (start_position order (earlier_start order a b))
        (start_position order a)
        × Le places (start_position order (earlier_start order a b)) (start_position order b)
    first_under = first_by (places (start_position order a) (start_position order b)) refl

    -- both ends are at most the later
    last_by : (o : Ordering) → places (end_position order a) (end_position order b) ≡ o
        → Le places (end_position order a) (end_position order (if is_gt o then a else b))
        × Le places (end_position order b) (end_position order (if is_gt o then a else b))
    last_by o e = grind arith

    pub last_over : Le places (end_position order a) (end_position order (later_end order a b))
        × Le places (end_position order b) (end_position order (later_end order a b))
    last_over = last_by (places (end_position order a) (end_position order b)) refl

    first_is_by : (P : Bound K → Type 0) (o : Ordering) → P (if is_lt o then a else b) → P a ⊎ P b
    first_is_by P o h = grind arith

    last_is_by : (P : Bound K → Type 0) (o : Ordering) → P (if is_gt o then a else b) → P a ⊎ P b
    last_is_by P o h = grind arith

  -- a key that a start holds is held by an earlier one
  pub start_below : (a b : Bound K) (k : K) → order.is_key k
      → Le places (start_position order a) (start_position order b) → StartHolds order b k
      → StartHolds order a k
  start_below a b k key le h =
      (start_holds order lawful a k key).1
      (le_trans places (position_total order.cmp lawful.total) (start_position order a)
      (start_position order b) (Beside k At) le ((start_holds order lawful b k key).0 h))

  pub end_above : (a b : Bound K) (k : K) → order.is_key k
      → Le places (end_position order b) (end_position order a) → EndHolds order b k
      → EndHolds order a k
  end_above a b k key le h =
      (end_holds order lawful a k key).1
      (le_trans places (position_total order.cmp lawful.total) (Beside k At)
      (end_position order b) (end_position order a) ((end_holds order lawful b k key).0 h) le)

  pub start_both : (a b : Bound K) (k : K) → order.is_key k
      → StartHolds order (later_start order a b) k ↔ (StartHolds order a k × StartHolds order b k)
  start_both a b k key =
      let over = later_over a b in (
        λ h. (
          start_below a (later_start order a b) k key over.0 h,
          start_below b (later_start order a b) k key over.1 h,
        ),
        λ h. later_is a b (λ x. StartHolds order x k) h.0 h.1,
      )

  pub end_both : (a b : Bound K) (k : K) → order.is_key k → EndHolds order (earlier_end order a b) k
      ↔ (EndHolds order a k × EndHolds order b k)
  end_both a b k key = search (rules, earlier_under, end_above, earlier_is)

  pub start_either : (a b : Bound K) (k : K) → order.is_key k
      → StartHolds order (earlier_start order a b) k ↔ (StartHolds order a k ⊎ StartHolds order b k)
  start_either a b k key =
      let under = first_under a b in (
        λ h. first_is_by a b (λ x. StartHolds order x k)
            (places (start_position order a) (start_position order b)) h,
        λ h.
            elim h [
              | inl g ↦ start_below (earlier_start order a b) a k key under.0 g
              | inr g ↦ start_below (earlier_start order a b) b k key under.1 g
            ],
      )

  pub end_either : (a b : Bound K) (k : K) → order.is_key k → EndHolds order (later_end order a b) k
      ↔ (EndHolds order a k ⊎ EndHolds order b k)
  end_either a b k key =
      let over = last_over a b in (
        λ h. last_is_by a b (λ x. EndHolds order x k)
            (places (end_position order a) (end_position order b)) h,
        λ h.
            elim h [
              | inl g ↦ end_above (later_end order a b) a k key over.0 g
              | inr g ↦ end_above (later_end order a b) b k key over.1 g
            ],
      )

  -- the common part holds the keys of both
  pub common_holds : (r s : AnyRange K) (k : K) → order.is_key k → Holds order (common order r s) k
      ↔ (Holds order r k × Holds order s k)
  common_holds r s k key = grind (arith, start_both, end_both)

  pub common_known : (r s : AnyRange K) → IsKeyRange order r → IsKeyRange order s
      → IsKeyRange order (common order r s)
  common_known r s h k = grind arith
