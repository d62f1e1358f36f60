-- When a list of ranges with values is in order, and where it is not.
use Rattle.std.specs.Prelude.{◌+◌, ℕ, List, [], ◌∷◌, Option, Some, None, take}
use Rattle.range_bulk.specs.Common.{KeyOrder, Every, IsEmptyRange, LiesBefore, AnyRange, Item, EachNext}

-- the item that what is read as a range and a value are
abbrev pub item_of : {R K V : Type 0} → (R → AnyRange K) → R × V → Item (AnyRange K) V
item_of range pair = record { key = range pair.0; value = pair.1 }

module _ {K : Type 0} (order : KeyOrder K) where
  -- the range is nonempty, and lies after the one before it, where there is one
  abbrev pub IsNext : Option (AnyRange K) → AnyRange K → Type 0
  IsNext None r = ¬ IsEmptyRange order r
  IsNext (Some before) r = (¬ IsEmptyRange order r) × LiesBefore order before r

  module _ {V : Type 0} where
    -- no range is empty, and each lies before the next
    pub record IsSorted (items : List (Item (AnyRange K) V)) : Type 0 where
      pub nonempty : Every (λ i. ¬ IsEmptyRange order i.key) items
      pub rising : EachNext (λ i j. LiesBefore order i.key j.key) items

    -- the items before the index are sorted, and with the one there they are not
    abbrev pub IsFirstFault : List (Item (AnyRange K) V) → ℕ → Type 0
    IsFirstFault items n = IsSorted (take n items) × ¬ IsSorted (take (n + 1) items)

-- the last range, if there is one
abbrev pub last_key : {K V : Type 0} → List (Item (AnyRange K) V) → Option (AnyRange K)
last_key [] = None
last_key (i ∷ []) = Some i.key
last_key (i ∷ j ∷ rest) = last_key (j ∷ rest)
