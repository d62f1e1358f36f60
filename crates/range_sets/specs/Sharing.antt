-- How what the ranges of two lists share becomes one list of ranges that lie apart.
use Rattle.std.specs.Prelude.{◌≡◌, ◌⊎◌, Bool, true, false, List, [], ◌∷◌}
use Rattle.std.specs.declared.ops.Bound.{Bound}
use Rattle.range_keys.specs.Order.{KeyOrder}
use Rattle.range_keys.specs.Position.{start_position, end_position, position_cmp}
use Rattle.range_keys.specs.declared.inner.position.Position.{Position}
use Rattle.range_algebra.specs.Cuts.{lower, upper}
use Rattle.range_algebra.specs.Intervals.{Le, Lt}
use Rattle.range_algebra.specs.Range.{IsEmptyRange}
use Rattle.range_algebra.specs.declared.any.AnyRange.{AnyRange}
use Rattle.range_store.specs.declared.storage.Item.{Item}
use Rattle.range_merge.specs.Merged.{IsPlaced}
use Rattle.range_sets.specs.Uniting.{IsPushed}

module _ {K : Type 0} (order : KeyOrder K) where
  -- the first of the ranges, where there is one, starts past the position
  abbrev pub StartPast : Position K → List (AnyRange K) → Type 0
  StartPast m [] = Unit {0}
  StartPast m (r ∷ rest) = Lt (position_cmp order.cmp) m (lower order r)

  -- nonempty ranges of keys, each before the next with a position between
  abbrev pub LieApart : List (AnyRange K) → Type 0
  LieApart [] = Unit {0}
  LieApart (r ∷ rest) = IsPlaced order r × (StartPast (upper order r) rest × LieApart rest)

  -- one of two starts, which does not lie before the other
  abbrev pub IsLaterStart : Bound K → Bound K → Bound K → Type 0
  IsLaterStart s t later =
      ((later ≡ s)
      × Le (position_cmp order.cmp) (start_position order t) (start_position order s))
      ⊎ ((later ≡ t)
      × Le (position_cmp order.cmp) (start_position order s) (start_position order t))

  -- one of two ends, which does not lie after the other: the first where the flag says so
  abbrev pub IsEarlierEnd : Bound K → Bound K → Bound K → Bool → Type 0
  IsEarlierEnd e f earlier true =
      (earlier ≡ e) × Le (position_cmp order.cmp) (end_position order e) (end_position order f)
  IsEarlierEnd e f earlier false =
      (earlier ≡ f) × Le (position_cmp order.cmp) (end_position order f) (end_position order e)

  -- what two ranges share, perhaps nothing, and whether the first ends no later than the second
  pub record IsCommon (r s common : AnyRange K) (is_first : Bool) : Type 0 where
    pub start : IsLaterStart r.start s.start common.start
    pub end : IsEarlierEnd r.end s.end common.end is_first

  module _ (is_clone : K → K → Type 0) where
    -- a clone of the range stands after the others, unless it is empty
    abbrev pub IsPushedUnlessEmpty : List (Item (AnyRange K) (Unit {0}))
        → List (Item (AnyRange K) (Unit {0})) → AnyRange K → Type 0
    IsPushedUnlessEmpty old new r =
        ((¬ IsEmptyRange order r) × IsPushed order is_clone old new r)
        ⊎ (IsEmptyRange order r × (new ≡ old))
