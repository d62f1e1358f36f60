-- What is left of two stored ranges when the first piece is taken from both.
use Rattle.std.specs.Prelude.{◌≡◌, ◌⊎◌, Option, Some, None}
use Rattle.std.specs.declared.cmp.Ordering.TheVariants.{Equal}
use Rattle.std.specs.Option.{option_copied, option_map}
use Rattle.range_keys.specs.Order.{KeyOrder}
use Rattle.range_keys.specs.Position.{bound_of, position_cmp}
use Rattle.range_algebra.specs.Intervals.{Le, Lt}
use Rattle.range_algebra.specs.Range.{IsKeyRange}
use Rattle.range_algebra.specs.References.{range_of}
use Rattle.range_algebra.specs.declared.any.AnyRange.{AnyRange}
use Rattle.range_store.specs.declared.storage.Item.{Item}
use Rattle.range_runs.specs.Stored.{item_lower, item_upper}
use Rattle.range_keys.specs.declared.inner.position.Position.{Position}
use Rattle.range_algebra.specs.Cuts.{lower, upper}
use Rattle.range_merge.specs.declared.merged.Part.{Part}
use Rattle.range_merge.specs.declared.merged.Piece.{Piece}

-- the item that what is left of a stored range shows
abbrev pub part_item : {K V : Type 0} → Part K V → Item (AnyRange K) V
part_item part = record {
  key = record { start = bound_of part.start; end = part.range.now.end };
  value = part.value.now;
}

-- there was one, and none is left
abbrev pub IsUsedUp : {U : Type 0} → Option U → Option U → Type 0
IsUsedUp first rest = (first ≡ None → ⊥) × (rest ≡ None)

module _ {K : Type 0} (order : KeyOrder K) where
  -- a nonempty range of keys
  pub record IsPlaced (r : AnyRange K) : Type 0 where
    pub known : IsKeyRange order r
    pub good : Lt (position_cmp order.cmp) (lower order r) (upper order r)

  -- the item, where there is one, has a nonempty range of keys
  abbrev pub IsPlacedIn : {V : Type 0} → Option (Item (AnyRange K) V) → Type 0
  IsPlacedIn None = Unit {0}
  IsPlacedIn (Some i) = IsPlaced i.key

  -- the one is what is left of the other from a position on
  pub record IsPartPast {V : Type 0} (i : Item (AnyRange K) V) (p : Position K)
      (rest : Item (AnyRange K) V) : Type 0 where
    pub placed : IsPlaced rest.key
    pub value : rest.value ≡ i.value
    pub from : position_cmp order.cmp p (item_lower order rest) ≡ Equal
    pub upto : position_cmp order.cmp (item_upper order rest) (item_upper order i) ≡ Equal

  -- what is left of the item past the piece, or none where the piece goes to its end
  abbrev pub IsRestOf : {V : Type 0} → Item (AnyRange K) V → AnyRange K
      → Option (Item (AnyRange K) V) → Type 0
  IsRestOf i key None = position_cmp order.cmp (upper order key) (item_upper order i) ≡ Equal
  IsRestOf i key (Some j) = IsPartPast i (upper order key) j

  -- the piece begins with the item and has its value, or comes before it
  abbrev pub IsCutFrom : {V : Type 0} → Option (Item (AnyRange K) V) → AnyRange K → Option V
      → Option (Item (AnyRange K) V) → Type 0
  IsCutFrom None key None rest = rest ≡ None
  IsCutFrom None key (Some v) rest = ⊥
  IsCutFrom (Some i) key None rest =
      (rest ≡ Some i) × Le (position_cmp order.cmp) (upper order key) (item_lower order i)
  IsCutFrom (Some i) key (Some v) rest =
      (i.value ≡ v) × (position_cmp order.cmp (lower order key) (item_lower order i) ≡ Equal)
      × IsRestOf i key rest

  module _ {V W : Type 0} where
    -- both are there, and start at one position
    abbrev pub StartAlike : Option (Item (AnyRange K) V) → Option (Item (AnyRange K) W) → Type 0
    StartAlike left right =
        (i : Item (AnyRange K) V) × (j : Item (AnyRange K) W) × (left ≡ Some i) × (right ≡ Some j)
        × (position_cmp order.cmp (item_lower order i) (item_lower order j) ≡ Equal)

    -- the first piece of two ranges, with the values of those that it begins with, and what is left
    pub record IsFirstPiece (left : Option (Item (AnyRange K) V))
        (right : Option (Item (AnyRange K) W)) (key : AnyRange K) (value : Option V)
        (other : Option W) (left_rest : Option (Item (AnyRange K) V))
        (right_rest : Option (Item (AnyRange K) W)) : Type 0 where
      pub placed : IsPlaced key
      pub bound : value ≡ None → other ≡ None → ⊥
      pub first : IsCutFrom left key value left_rest
      pub second : IsCutFrom right key other right_rest
      -- one is used up, or what is left of both starts at one position, as they did not before
      pub progress : IsUsedUp left left_rest ⊎ (IsUsedUp right right_rest ⊎
          ((¬ StartAlike left right) × StartAlike left_rest right_rest))

    -- the piece is the first of the two ranges
    abbrev pub IsFirstPieceOf : Option (Item (AnyRange K) V) → Option (Item (AnyRange K) W)
        → Piece K V W → Type 0
    IsFirstPieceOf left right piece =
        IsFirstPiece left right (range_of piece.range) (option_copied piece.value)
        (option_copied piece.other_value) (option_map part_item piece.left)
        (option_map part_item piece.right)
