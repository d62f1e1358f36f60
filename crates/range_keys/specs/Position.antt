-- Where a bound lies in the order of the keys, and the order of such positions.
use Rattle.std.specs.Prelude.{ℕ, Option, Some, None}
use Rattle.std.specs.declared.cmp.Ordering.{Ordering}
use Rattle.std.specs.declared.cmp.Ordering.TheVariants.{Less, Equal, Greater}
use Rattle.std.specs.declared.ops.Bound.{Bound}
use Rattle.std.specs.declared.ops.Bound.TheVariants.{Included, Excluded, Unbounded}
use Rattle.std.specs.Ordering.{nat_cmp, on, ordering_then}
use Rattle.std.specs.Borrow.{Bor}
use Rattle.std.specs.Range.Bound.{bound_map}
use Rattle.range_keys.specs.Order.{KeyOrder}
pub use Rattle.range_keys.specs.declared.inner.position.Side.{Side}
pub use Rattle.range_keys.specs.declared.inner.position.Side.TheVariants.{Before, At, After}
pub use Rattle.range_keys.specs.declared.inner.position.Position.{Position}
pub use Rattle.range_keys.specs.declared.inner.position.Position.TheVariants.{MinusInfinity, Beside, PlusInfinity}
use Rattle.range_keys.specs.declared.inner.position.KeyRef.{KeyRef}
use Rattle.range_keys.specs.declared.inner.position.KeyRef.TheVariants.{Given, Told}

-- the key that is meant
abbrev pub key_value : {K : Type 0} → KeyRef K → K
key_value (Given key) = key.now
key_value (Told key) = key

-- the bound that the references point to
abbrev pub bound_of : {K : Type 0} → Bound (Bor K) → Bound K
bound_of = bound_map (λ x. x.now)

abbrev pub position_map : {A B : Type 0} → (A → B) → Position A → Position B
position_map f MinusInfinity = MinusInfinity
position_map f (Beside a s) = Beside (f a) s
position_map f PlusInfinity = PlusInfinity

abbrev pub side_index : Side → ℕ
side_index Before = 0
side_index At = 1
side_index After = 2

abbrev pub side_cmp : Side → Side → Ordering
side_cmp = on side_index nat_cmp

-- by the key first
abbrev pub position_cmp : {K : Type 0} → (K → K → Ordering) → Position K → Position K → Ordering
position_cmp cmp MinusInfinity MinusInfinity = Equal
position_cmp cmp MinusInfinity (Beside b t) = Less
position_cmp cmp MinusInfinity PlusInfinity = Less
position_cmp cmp (Beside a s) MinusInfinity = Greater
position_cmp cmp (Beside a s) (Beside b t) = ordering_then (cmp a b) (side_cmp s t)
position_cmp cmp (Beside a s) PlusInfinity = Less
position_cmp cmp PlusInfinity MinusInfinity = Greater
position_cmp cmp PlusInfinity (Beside b t) = Greater
position_cmp cmp PlusInfinity PlusInfinity = Equal

-- at the key that is known, and otherwise at the other position
abbrev pub at_known : {K : Type 0} → Option K → Position K → Position K
at_known (Some b) otherwise = Beside b At
at_known None otherwise = otherwise

module _ {K : Type 0} (order : KeyOrder K) where
  abbrev pub start_position : Bound K → Position K
  start_position (Included a) = Beside a At
  start_position (Excluded a) = at_known (order.succ a) (Beside a After)
  start_position Unbounded = at_known order.least MinusInfinity

  abbrev pub end_position : Bound K → Position K
  end_position (Included a) = Beside a At
  end_position (Excluded a) = at_known (order.pred a) (Beside a Before)
  end_position Unbounded = at_known order.greatest PlusInfinity
