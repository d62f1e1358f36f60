-- A range as the positions from a lower one up to and without an upper one.
use Rattle.range_keys.specs.Order.{KeyOrder}
use Rattle.range_keys.specs.Position.{start_position, end_position, at_known}
use Rattle.range_keys.specs.declared.inner.position.Position.{Position}
use Rattle.range_keys.specs.declared.inner.position.Position.TheVariants.{MinusInfinity, Beside, PlusInfinity}
use Rattle.range_keys.specs.declared.inner.position.Side.TheVariants.{Before, At, After}
use Rattle.range_algebra.specs.declared.any.AnyRange.{AnyRange}

module _ {K : Type 0} (order : KeyOrder K) where
  -- the least position at which a range can start after an end at this position
  abbrev pub past : Position K → Position K
  past MinusInfinity = MinusInfinity
  past (Beside a Before) = Beside a At
  past (Beside a At) = at_known (order.succ a) (Beside a After)
  past (Beside a After) = Beside a After
  past PlusInfinity = PlusInfinity

  abbrev pub lower : AnyRange K → Position K
  lower r = start_position order r.start

  abbrev pub upper : AnyRange K → Position K
  upper r = past (end_position order r.end)
