-- How the ranges of two lists, taken by their starts, become one list of ranges that lie apart.
use Rattle.std.specs.Prelude.{◌≡◌, ◌⊎◌, Bool, true, false, Option, Some, None, List, [], ◌∷◌, ◌++◌}
use Rattle.std.specs.declared.ops.Bound.{Bound}
use Rattle.range_keys.specs.Order.{KeyOrder}
use Rattle.range_keys.specs.Position.{end_position, position_cmp}
use Rattle.range_algebra.specs.Clones.{IsRangeClone}
use Rattle.range_algebra.specs.Cuts.{lower, past, upper}
use Rattle.range_algebra.specs.Intervals.{Le, Lt}
use Rattle.range_algebra.specs.Range.{IsKeyRange}
use Rattle.range_algebra.specs.declared.any.AnyRange.{AnyRange}
use Rattle.range_store.specs.declared.storage.Item.{Item}

module _ {K : Type 0} (order : KeyOrder K) where
  -- the range does not start after the other, where there is another
  abbrev pub StartsFirst : AnyRange K → Option (AnyRange K) → Type 0
  StartsFirst r None = Unit {0}
  StartsFirst r (Some s) = Le (position_cmp order.cmp) (lower order r) (lower order s)

  -- the range starts first, and is the one on the left where the flag says so
  abbrev pub IsFirstOf : Option (AnyRange K) → Option (AnyRange K) → AnyRange K → Bool → Type 0
  IsFirstOf left right r true = (left ≡ Some r) × StartsFirst r right
  IsFirstOf left right r false = (right ≡ Some r) × StartsFirst r left

  -- a range that starts there meets or touches one that ends so
  abbrev pub Reaches : Bound K → AnyRange K → Type 0
  Reaches end r = Le (position_cmp order.cmp) (lower order r) (past order (end_position order end))

  -- one of two ends, which does not lie before the other
  abbrev pub IsLaterEnd : Bound K → Bound K → Bound K → Type 0
  IsLaterEnd e f later =
      ((later ≡ e) × Le (position_cmp order.cmp) (end_position order f) (end_position order e))
      ⊎ ((later ≡ f) × Le (position_cmp order.cmp) (end_position order e) (end_position order f))

  -- a range that goes on to the end of another, which it reaches
  pub record IsJoined (last r joined : AnyRange K) : Type 0 where
    pub reaches : Reaches last.end r
    pub start : joined.start ≡ last.start
    pub end : IsLaterEnd last.end r.end joined.end

  module _ (is_clone : K → K → Type 0) where
    -- a clone of the range stands after the others
    pub record IsPushed (old new : List (Item (AnyRange K) (Unit {0})))
        (r : AnyRange K) : Type 0 where
      pub copy : AnyRange K
      pub clone : IsRangeClone is_clone r copy
      pub known : IsKeyRange order copy
      pub list : new ≡ old ++ record { key = copy; value = tt } ∷ []

    -- the last range goes on to the end of another, or it stands after the others, and the other
    -- is the last one
    abbrev pub IsAdded : List (Item (AnyRange K) (Unit {0}))
        → List (Item (AnyRange K) (Unit {0})) → AnyRange K → AnyRange K → AnyRange K → Type 0
    IsAdded old new last r next =
        (IsJoined last r next × (new ≡ old))
        ⊎ (Lt (position_cmp order.cmp) (upper order last) (lower order r) × (next ≡ r)
        × IsPushed old new last)
