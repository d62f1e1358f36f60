-- The common part and the hull of two ranges, by their bounds.
use Rattle.std.specs.Prelude.{if◌then◌else◌}
use Rattle.std.specs.declared.ops.Bound.{Bound}
use Rattle.std.specs.Ordering.{is_lt, is_gt}
use Rattle.range_keys.specs.Order.{KeyOrder}
use Rattle.range_keys.specs.Position.{start_position, end_position, position_cmp}
use Rattle.range_algebra.specs.declared.any.AnyRange.{AnyRange}

module _ {K : Type 0} (order : KeyOrder K) where
  -- of two starts, or ends, the first where their positions are equal
  abbrev pub later_start : Bound K → Bound K → Bound K
  later_start a b =
      if is_lt (position_cmp order.cmp (start_position order a) (start_position order b)) then b
      else a

  abbrev pub earlier_end : Bound K → Bound K → Bound K
  earlier_end a b =
      if is_gt (position_cmp order.cmp (end_position order a) (end_position order b)) then b else a

  -- of two starts, or ends, the second where their positions are equal
  abbrev pub earlier_start : Bound K → Bound K → Bound K
  earlier_start a b =
      if is_lt (position_cmp order.cmp (start_position order a) (start_position order b)) then a
      else b

  abbrev pub later_end : Bound K → Bound K → Bound K
  later_end a b =
      if is_gt (position_cmp order.cmp (end_position order a) (end_position order b)) then a else b

  abbrev pub common : AnyRange K → AnyRange K → AnyRange K
  common r s = record { start = later_start r.start s.start; end = earlier_end r.end s.end }
