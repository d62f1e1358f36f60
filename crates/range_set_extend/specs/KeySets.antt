-- Which keys a list of stored ranges holds, and what becomes of them.
use Rattle.std.specs.Prelude.{ℕ, true, List, length, ◌≤◌, ◌⊎◌, ◌↔◌}
use Rattle.range_keys.specs.Order.{KeyOrder}
use Rattle.range_algebra.specs.Intervals.{Any}
use Rattle.range_algebra.specs.Range.{Holds}
use Rattle.range_algebra.specs.declared.any.AnyRange.{AnyRange}
use Rattle.range_store.specs.declared.storage.Item.{Item}
use Rattle.range_runs.specs.Bindings.{IsBound}
use Rattle.range_runs.specs.Canonical.{IsCanonical}
use Rattle.range_runs.specs.Stored.{IsStored}

module _ {K : Type 0} (order : KeyOrder K) where
  -- the form of a map whose values are all equal: nonempty ranges, each before the next with a
  -- position between
  abbrev pub IsStoredSet : List (Item (AnyRange K) (Unit {0})) → Type 0
  IsStoredSet items = IsStored order (λ _ _. true) items

  -- the form in which every call leaves a set
  abbrev pub IsCanonicalSet : List (Item (AnyRange K) (Unit {0})) → Type 0
  IsCanonicalSet items = IsCanonical order (λ _ _. true) items

  -- some range of the list holds the key
  abbrev pub SomeHolds : List (AnyRange K) → K → Type 0
  SomeHolds ranges k = Any (λ r. Holds order r k) ranges

  module _ {V : Type 0} where
    -- some stored range holds the key
    abbrev pub HoldsKey : List (Item (AnyRange K) V) → K → Type 0
    HoldsKey items k = IsBound order items k

    -- the keys of the range were added, and no others
    abbrev pub HoldsAlso : List (Item (AnyRange K) V) → List (Item (AnyRange K) V) → AnyRange K
        → Type 0
    HoldsAlso before after r = (k : K) → order.is_key k → HoldsKey after k
        ↔ (HoldsKey before k ⊎ Holds order r k)

    -- the keys of the range were taken away, and no others
    abbrev pub HoldsWithout : List (Item (AnyRange K) V) → List (Item (AnyRange K) V) → AnyRange K
        → Type 0
    HoldsWithout before after r = (k : K) → order.is_key k → HoldsKey after k
        ↔ (HoldsKey before k × ¬ Holds order r k)

    -- the keys of all the ranges were added, and no others
    abbrev pub HoldsAllAlso : List (Item (AnyRange K) V) → List (Item (AnyRange K) V)
        → List (AnyRange K) → Type 0
    HoldsAllAlso before after ranges = (k : K) → order.is_key k → HoldsKey after k
        ↔ (HoldsKey before k ⊎ SomeHolds ranges k)

    -- the keys of all the ranges were taken away, and no others
    abbrev pub HoldsWithoutAll : List (Item (AnyRange K) V) → List (Item (AnyRange K) V)
        → List (AnyRange K) → Type 0
    HoldsWithoutAll before after ranges = (k : K) → order.is_key k → HoldsKey after k
        ↔ (HoldsKey before k × ¬ SomeHolds ranges k)

    -- just the keys of all the ranges are held
    abbrev pub HoldsAllOf : List (Item (AnyRange K) V) → List (AnyRange K) → Type 0
    HoldsAllOf items ranges = (k : K) → order.is_key k → HoldsKey items k ↔ SomeHolds ranges k

    -- the one holds just the keys that the other does not
    abbrev pub HoldsTheOthers : List (Item (AnyRange K) V) → List (Item (AnyRange K) V) → Type 0
    HoldsTheOthers items others = (k : K) → order.is_key k → HoldsKey others k ↔ ¬ HoldsKey items k

    -- the one holds just the keys that the other holds
    abbrev pub HoldAlike : List (Item (AnyRange K) V) → List (Item (AnyRange K) V) → Type 0
    HoldAlike items others = (k : K) → order.is_key k → HoldsKey items k ↔ HoldsKey others k

    -- no list that holds the same keys, disjoint or not, has fewer ranges
    abbrev pub IsLeastCount : List (Item (AnyRange K) V) → ℕ → Type 0
    IsLeastCount items n = (others : List (Item (AnyRange K) V)) → HoldAlike items others
        → n ≤ length others

  -- the second holds just the keys of the first, whatever their values
  abbrev pub HoldsKeysOf : {V W : Type 0} → List (Item (AnyRange K) V) → List (Item (AnyRange K) W)
      → Type 0
  HoldsKeysOf items keys = (k : K) → order.is_key k → HoldsKey keys k ↔ HoldsKey items k
