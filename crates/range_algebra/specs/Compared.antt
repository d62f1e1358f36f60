-- How ranges lie to one another, by the positions of their bounds.
use Rattle.std.specs.Prelude.{Option, Some, None, Bool, true, false, not, ◌&&◌, ◌||◌, if◌then◌else◌}
use Rattle.std.specs.declared.ops.Bound.{Bound}
use Rattle.std.specs.declared.ops.Bound.TheVariants.{Included, Excluded, Unbounded}
use Rattle.std.specs.Ordering.{is_eq, is_lt, is_gt}
use Rattle.range_keys.specs.Order.{KeyOrder}
use Rattle.range_keys.specs.Position.{start_position, end_position, position_cmp}
use Rattle.range_keys.specs.declared.inner.position.Position.{Position}
use Rattle.range_algebra.specs.declared.any.AnyRange.{AnyRange}
use Rattle.range_algebra.specs.declared.ordering.RangeOrdering.{RangeOrdering}
use Rattle.range_algebra.specs.declared.ordering.RangeOrdering.TheVariants.{Before, Intersecting, After}

-- before, and not touching where touching counts as meeting
abbrev pub is_before : RangeOrdering → Bool → Bool
is_before (Before touching) connected = not touching || not connected
is_before (Intersecting starts ends) connected = false
is_before (After touching) connected = false

-- after, and not touching where touching counts as meeting
abbrev pub is_after : RangeOrdering → Bool → Bool
is_after (Before touching) connected = false
is_after (Intersecting starts ends) connected = false
is_after (After touching) connected = not touching || not connected

-- intersecting, or touching where touching counts as meeting
abbrev pub matches : RangeOrdering → Bool → Bool
matches (Before touching) connected = touching && connected
matches (Intersecting starts ends) connected = true
matches (After touching) connected = touching && connected

-- the start bound just past an end bound
abbrev pub flipped : {A : Type 0} → Bound A → Option (Bound A)
flipped (Included a) = Some (Excluded a)
flipped (Excluded a) = Some (Included a)
flipped Unbounded = None

module _ {K : Type 0} (order : KeyOrder K) where
  -- the start lies past the end
  abbrev pub starts_past_end : Bound K → Bound K → Bool
  starts_past_end start end =
      is_gt (position_cmp order.cmp (start_position order start) (end_position order end))

  abbrev pub start_is_at : Option (Bound K) → Position K → Bool
  start_is_at None p = false
  start_is_at (Some b) p = is_eq (position_cmp order.cmp (start_position order b) p)

  -- the position is that of the start bound just past the end bound
  abbrev pub starts_at_end : Bound K → Position K → Bool
  starts_at_end end p = start_is_at (flipped end) p

  abbrev pub bounds_ordering : Bound K → Bound K → Bound K → Bound K → RangeOrdering
  bounds_ordering left left_end right right_end =
      let start = start_position order left in
      let end = end_position order left_end in
      let other_start = start_position order right in
      let other_end = end_position order right_end in
      let starts = position_cmp order.cmp start other_start in
      let ends = position_cmp order.cmp end other_end in
      if is_lt starts
      then (if is_lt (position_cmp order.cmp end other_start) then Before
      (starts_at_end left_end other_start) else Intersecting false (is_eq ends))
      else (if is_gt (position_cmp order.cmp start other_end) then After
      (starts_at_end right_end start) else Intersecting (is_eq starts) (is_eq ends))

  abbrev pub range_ordering : AnyRange K → AnyRange K → RangeOrdering
  range_ordering r s = bounds_ordering r.start r.end s.start s.end
