-- Where the bounds of ranges lie that are over keys.
use Rattle.std.proofs.Common.{◌≡◌, refl, Option, Some, None}
use Rattle.std.specs.declared.ops.Bound.{Bound}
use Rattle.std.specs.declared.ops.Bound.TheVariants.{Included, Excluded, Unbounded}
use Rattle.range_keys.specs.Order.{KeyOrder, IsLawful}
use Rattle.range_keys.specs.Position.{Position, MinusInfinity, Beside, PlusInfinity, Before, At, After, start_position, end_position, at_known}
use Rattle.range_keys.specs.Touching.{IsOverKeys}

module _ {K : Type 0} (order : KeyOrder K) where
  -- where a start can lie
  unfoldable pub IsStart : Position K → Type 0
  IsStart MinusInfinity = order.least ≡ None
  IsStart (Beside a Before) = ⊥
  IsStart (Beside a At) = order.is_key a
  IsStart (Beside a After) = order.is_key a × (order.succ a ≡ None)
  IsStart PlusInfinity = ⊥

  -- where an end can lie
  unfoldable pub IsEnd : Position K → Type 0
  IsEnd MinusInfinity = ⊥
  IsEnd (Beside b Before) = order.is_key b × (order.pred b ≡ None)
  IsEnd (Beside b At) = order.is_key b
  IsEnd (Beside b After) = ⊥
  IsEnd PlusInfinity = order.greatest ≡ None

  module _ (lawful : IsLawful order) where
    pub excluded_start_is_one : (a : K) (o : Option K) → order.succ a ≡ o → order.is_key a
        → IsStart (at_known o (Beside a After))
    unfolding IsStart
    excluded_start_is_one a None e key = (key, e)
    excluded_start_is_one a (Some b) e key = (lawful.succ_key a b e).1

    least_start_is_one : (o : Option K) → order.least ≡ o → IsStart (at_known o MinusInfinity)
    unfolding IsStart
    least_start_is_one None e = e
    least_start_is_one (Some m) e = lawful.least_key m e

    pub starts_lie_at_starts : (b : Bound K) → IsOverKeys order b → IsStart (start_position order b)
    unfolding IsStart
    starts_lie_at_starts (Included a) key = key
    starts_lie_at_starts (Excluded a) key = excluded_start_is_one a (order.succ a) refl key
    starts_lie_at_starts Unbounded key = least_start_is_one order.least refl

    excluded_end_is_one : (b : K) (o : Option K) → order.pred b ≡ o → order.is_key b
        → IsEnd (at_known o (Beside b Before))
    unfolding IsEnd
    excluded_end_is_one b None e key = (key, e)
    excluded_end_is_one b (Some a) e key = (lawful.pred_key a b e).0

    greatest_end_is_one : (o : Option K) → order.greatest ≡ o → IsEnd (at_known o PlusInfinity)
    unfolding IsEnd
    greatest_end_is_one None e = e
    greatest_end_is_one (Some m) e = lawful.greatest_key m e

    pub ends_lie_at_ends : (b : Bound K) → IsOverKeys order b → IsEnd (end_position order b)
    unfolding IsEnd
    ends_lie_at_ends (Included a) key = key
    ends_lie_at_ends (Excluded a) key = excluded_end_is_one a (order.pred a) refl key
    ends_lie_at_ends Unbounded key = greatest_end_is_one order.greatest refl
