-- Which pairs of a key and a value a list of ranges with sets has, and what becomes of them.
use Rattle.std.specs.List.{AllByRecursion as Every}
use Rattle.std.specs.Prelude.{Bool, IsTrue, List, ◌⊎◌, ◌↔◌, Option}
use Rattle.range_keys.specs.Order.{KeyOrder}
use Rattle.range_algebra.specs.Intervals.{Any}
use Rattle.range_algebra.specs.Range.{Holds}
use Rattle.range_algebra.specs.declared.any.AnyRange.{AnyRange}
use Rattle.range_store.specs.declared.storage.Item.{Item}
use Rattle.range_runs.specs.Bindings.{Binds}
use Rattle.range_multimaps.specs.Members.{among}

-- no stored set is empty
abbrev pub HasNoEmptySet : {K S : Type 0} → (S → Type 0) → List (Item (AnyRange K) S) → Type 0
HasNoEmptySet is_void items = Every (λ i. ¬ is_void i.value) items

module _ {K : Type 0} (order : KeyOrder K) {S : Type 0} (same : S → S → Bool) where
  -- each key of which P is true is bound as before
  abbrev pub StayBound : List (Item (AnyRange K) S) → List (Item (AnyRange K) S) → (K → Type 0)
      → Type 0
  StayBound before after P = (k : K) → order.is_key k → P k → (b : Option S)
      → Binds order same after k b ↔ Binds order same before k b

-- of two relations between keys and values, each of which says which pairs there are
module _ {K : Type 0} (order : KeyOrder K) {V : Type 0} (eq : V → V → Bool) where
  -- the second has the pairs of the first, and those of the range's keys with what equals the value
  abbrev pub AddsPairs : (K → V → Type 0) → (K → V → Type 0) → AnyRange K → V → Type 0
  AddsPairs before after r v = (k : K) → order.is_key k → (w : V)
      → after k w ↔ (before k w ⊎ (Holds order r k × IsTrue (eq v w)))

  -- the second has the pairs of the first, but for those of the range's keys with what equals it
  abbrev pub TakesPairs : (K → V → Type 0) → (K → V → Type 0) → AnyRange K → V → Type 0
  TakesPairs before after r v = (k : K) → order.is_key k → (w : V)
      → after k w ↔ (before k w × ¬ (Holds order r k × IsTrue (eq v w)))

module _ {K : Type 0} (order : KeyOrder K) {S V : Type 0} (has : S → V → Bool) where
  abbrev Items : Type 0
  Items = List (Item (AnyRange K) S)

  -- some stored range holds the key, and its set has the value
  abbrev pub HasPair : List (Item (AnyRange K) S) → K → V → Type 0
  HasPair items k v = Any (λ i. Holds order i.key k × IsTrue (has i.value v)) items

  -- no value is paired with the key
  abbrev pub IsUnpaired : List (Item (AnyRange K) S) → K → Type 0
  IsUnpaired items k = (v : V) → ¬ HasPair items k v

  -- the answer is the set of the values that are paired with the key, and none where there is no
  -- such value
  abbrev pub AreValuesAt : List (Item (AnyRange K) S) → K → Option S → Type 0
  AreValuesAt items k answer = (v : V) → HasPair items k v ↔ IsTrue (among has answer v)

  -- the pairs of the range's keys with the set's values were added, and no others
  abbrev pub HasAllPairsAlso : List (Item (AnyRange K) S) → List (Item (AnyRange K) S) → AnyRange K
      → S → Type 0
  HasAllPairsAlso before after r s = (k : K) → order.is_key k → (v : V)
      → HasPair after k v ↔ (HasPair before k v ⊎ (Holds order r k × IsTrue (has s v)))

  -- the pairs of the range's keys with the set's values were taken away, and no others
  abbrev pub HasAllPairsWithout : List (Item (AnyRange K) S) → List (Item (AnyRange K) S)
      → AnyRange K → S → Type 0
  HasAllPairsWithout before after r s = (k : K) → order.is_key k → (v : V)
      → HasPair after k v ↔ (HasPair before k v × ¬ (Holds order r k × IsTrue (has s v)))

  -- of three lists the last has just the pairs of the others
  abbrev pub HasPairsOfEither : List (Item (AnyRange K) S) → List (Item (AnyRange K) S)
      → List (Item (AnyRange K) S) → Type 0
  HasPairsOfEither items others new = (k : K) → order.is_key k → (v : V)
      → HasPair new k v ↔ (HasPair items k v ⊎ HasPair others k v)

  -- of three lists the last has just the pairs of the first that the second does not have
  abbrev pub HasPairsOfFirstAlone : List (Item (AnyRange K) S) → List (Item (AnyRange K) S)
      → List (Item (AnyRange K) S) → Type 0
  HasPairsOfFirstAlone items others new = (k : K) → order.is_key k → (v : V)
      → HasPair new k v ↔ (HasPair items k v × ¬ HasPair others k v)

  module _ (eq : V → V → Bool) where
    -- the pairs of the range's keys with what equals the value were added, and no others
    abbrev pub HasPairsAlso : List (Item (AnyRange K) S) → List (Item (AnyRange K) S) → AnyRange K
        → V → Type 0
    HasPairsAlso before after = AddsPairs order eq (HasPair before) (HasPair after)

    -- the pairs of the range's keys with what equals the value were taken away, and no others
    abbrev pub HasPairsWithout : List (Item (AnyRange K) S) → List (Item (AnyRange K) S)
        → AnyRange K → V → Type 0
    HasPairsWithout before after = TakesPairs order eq (HasPair before) (HasPair after)
