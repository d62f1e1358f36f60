-- What items that are bound one after the other make of a list, and how far an iterator over them
-- was taken.
use Rattle.std.specs.Prelude.{◌≡◌, ◌↔◌, ◌∷◌, ◌++◌, Bool, Option, Some, List, map}
pub use Rattle.range_bulk.specs.Sorting.{item_of}
use Rattle.range_map.specs.Common.{KeyOrder, Holds, IsEmptyRange, AnyRange, Item, Binds, IsBound, IsSomeOf}
use Rattle.std.specs.Iterator.{Drains, YieldsThen}

module _ {U S R V K : Type 0} (becomes : U → S → Type 0)
    (steps : S → Option (R × V) → S → Type 0) (range : R → AnyRange K) (iter : U) where
  -- P holds of all the items
  abbrev pub AfterAll : (List (Item (AnyRange K) V) → Type 0) → Type 0
  AfterAll P =
      (source : S) × (pairs : List (R × V)) × becomes iter source × Drains steps source pairs
      × P (map (item_of range) pairs)

  -- P holds of the items before one that is such
  abbrev pub AfterSome : (Item (AnyRange K) V → Type 0)
      → (List (Item (AnyRange K) V) → Type 0) → Type 0
  AfterSome IsSuch P =
      (source : S) × (pairs : List (R × V)) × (next : R × V) × (rest : S) × becomes iter source
      × YieldsThen steps source pairs (Some next) rest × IsSuch (item_of range next)
      × P (map (item_of range) pairs)

module _ {K : Type 0} (order : KeyOrder K) {V : Type 0} where
  -- its range is nonempty
  abbrev pub IsNonempty : Item (AnyRange K) V → Type 0
  IsNonempty i = ¬ IsEmptyRange order i.key

  module _ (same_value : V → V → Bool) where
    -- the last of the items that holds a key binds it, and a key that none holds is bound as before
    pub record AreBoundAfter (before after items : List (Item (AnyRange K) V)) : Type 0 where
      pub held : (front rest : List (Item (AnyRange K) V)) (i : Item (AnyRange K) V)
          → items ≡ front ++ i ∷ rest → (k : K) → order.is_key k → Holds order i.key k
          → ¬ IsBound order rest k → (b : Option V) → Binds order same_value after k b
          ↔ IsSomeOf order same_value i.value b
      pub others : (k : K) → order.is_key k → ¬ IsBound order items k → (b : Option V)
          → Binds order same_value after k b ↔ Binds order same_value before k b
