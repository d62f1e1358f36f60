-- What a range has before another one and past it, and how the first of these becomes one of a list.
use Rattle.std.specs.Prelude.{◌≡◌, ◌⊎◌, List}
use Rattle.range_keys.specs.Order.{KeyOrder}
use Rattle.range_keys.specs.Position.{position_cmp}
use Rattle.range_algebra.specs.Cuts.{lower, upper}
use Rattle.range_algebra.specs.Intervals.{Le}
use Rattle.range_algebra.specs.declared.any.AnyRange.{AnyRange}
use Rattle.range_store.specs.declared.storage.Item.{Item}
use Rattle.range_merge.specs.Merged.{IsPlaced}
use Rattle.range_sets.specs.Uniting.{IsPushed}

module _ {K : Type 0} (order : KeyOrder K) where
  -- all that the range has before the other
  pub record IsFront (r s front : AnyRange K) : Type 0 where
    pub placed : IsPlaced order front
    pub start : front.start ≡ r.start
    pub before : Le (position_cmp order.cmp) (upper order front) (lower order s)
    pub below : Le (position_cmp order.cmp) (upper order front) (upper order r)
    pub upto : Le (position_cmp order.cmp) (lower order s) (upper order front)
        ⊎ Le (position_cmp order.cmp) (upper order r) (upper order front)

  -- all that the range has past the other
  pub record IsRest (r s rest : AnyRange K) : Type 0 where
    pub placed : IsPlaced order rest
    pub end : rest.end ≡ r.end
    pub above : Le (position_cmp order.cmp) (lower order r) (lower order rest)
    pub past : Le (position_cmp order.cmp) (upper order s) (lower order rest)
    pub from : Le (position_cmp order.cmp) (lower order rest) (lower order r)
        ⊎ Le (position_cmp order.cmp) (lower order rest) (upper order s)

  module _ (is_clone : K → K → Type 0) where
    -- a clone of all that the range has before the other stands after the others, if that is any
    abbrev pub IsFrontPushed : List (Item (AnyRange K) (Unit {0}))
        → List (Item (AnyRange K) (Unit {0})) → AnyRange K → AnyRange K → Type 0
    IsFrontPushed old new r s =
        ((front : AnyRange K) × IsFront r s front × IsPushed order is_clone old new front)
        ⊎ (Le (position_cmp order.cmp) (lower order s) (lower order r) × (new ≡ old))
