-- What a list of ranges with values binds, one key at a time, and which lists are as short as their
-- bindings allow.
use Rattle.std.specs.Prelude.{◌≡◌, ◌∷◌, ◌⊎◌, ◌↔◌, ◌≤◌}
use Rattle.range_runs.specs.Common.{Option, Some, None, Bool, IsTrue, List, [], ⊤, ℕ, length, KeyOrder, Any, Holds, IsKeyless, HoldSame, AnyRange, Item, AllZip, AreBelow, AreJoined}
use Rattle.std.specs.List.{AllByRecursion}
use Rattle.range_runs.specs.Neighbours.{EachNext}

module _ {K : Type 0} (order : KeyOrder K) where
  module _ {V : Type 0} where
    -- some range holds the key
    abbrev pub IsBound : List (Item (AnyRange K) V) → K → Type 0
    IsBound [] k = ⊥
    IsBound (i ∷ rest) k = Holds order i.key k ⊎ IsBound rest k

    -- some range that holds the key has this very value
    abbrev pub IsStoredFor : List (Item (AnyRange K) V) → K → V → Type 0
    IsStoredFor [] k v = ⊥
    IsStoredFor (i ∷ rest) k v = (Holds order i.key k × (i.value ≡ v)) ⊎ IsStoredFor rest k v

    -- this very item is stored, and its range holds the key
    abbrev pub IsItemFor : List (Item (AnyRange K) V) → K → Item (AnyRange K) V → Type 0
    IsItemFor items k i = Holds order i.key k × Any (λ j. j ≡ i) items

    -- no key is held by two items
    abbrev pub AreDisjoint : List (Item (AnyRange K) V) → Type 0
    AreDisjoint [] = ⊤
    AreDisjoint (i ∷ rest) =
        ((k : K) → order.is_key k → Holds order i.key k → ¬ IsBound rest k) × AreDisjoint rest

    module _ (same_value : V → V → Bool) where
      -- some range that holds the key has a value that equals v
      abbrev pub BindsTo : List (Item (AnyRange K) V) → K → V → Type 0
      BindsTo [] k v = ⊥
      BindsTo (i ∷ rest) k v =
          (Holds order i.key k × IsTrue (same_value i.value v)) ⊎ BindsTo rest k v

      -- the binding of the key is b
      abbrev pub Binds : List (Item (AnyRange K) V) → K → Option V → Type 0
      Binds items k None = ¬ IsBound items k
      Binds items k (Some v) = BindsTo items k v

      abbrev pub BindAlike : List (Item (AnyRange K) V) → List (Item (AnyRange K) V) → Type 0
      BindAlike items others = (k : K) → order.is_key k → (b : Option V) → Binds items k b
          ↔ Binds others k b

      -- no range is keyless, each is below the next, and no two neighbours are joined with equal
      -- values
      pub record IsCoarse (items : List (Item (AnyRange K) V)) : Type 0 where
        pub keyed : AllByRecursion (λ i. ¬ IsKeyless order i.key) items
        pub rising : EachNext (λ i j. AreBelow order i.key j.key) items
        pub parted : EachNext (λ i j. AreJoined order i.key j.key
            → ¬ IsTrue (same_value i.value j.value)) items

      -- item by item the same keys and equal values
      abbrev pub AreAlike : List (Item (AnyRange K) V) → List (Item (AnyRange K) V) → Type 0
      AreAlike = AllZip (λ i j. HoldSame order i.key j.key × IsTrue (same_value i.value j.value))

      -- the binding is to a value that equals v
      abbrev pub IsSomeOf : V → Option V → Type 0
      IsSomeOf v None = ⊥
      IsSomeOf v (Some w) = IsTrue (same_value v w)

      -- each key of the range is bound to v, and each other key as before
      pub record IsBoundAfter (before after : List (Item (AnyRange K) V)) (r : AnyRange K)
          (v : V) : Type 0 where
        pub held : (k : K) → order.is_key k → Holds order r k → (b : Option V) → Binds after k b
            ↔ IsSomeOf v b
        pub others : (k : K) → order.is_key k → ¬ Holds order r k → (b : Option V) → Binds after k b
            ↔ Binds before k b

      -- no key of the range is bound, and each other key as before
      pub record IsUnboundAfter (before after : List (Item (AnyRange K) V))
          (r : AnyRange K) : Type 0 where
        pub held : (k : K) → order.is_key k → Holds order r k → (b : Option V) → Binds after k b
            ↔ (b ≡ None)
        pub others : (k : K) → order.is_key k → ¬ Holds order r k → (b : Option V) → Binds after k b
            ↔ Binds before k b

module _ {K : Type 0} (order : KeyOrder K) {V : Type 0} (same_value : V → V → Bool) where
  -- each coarse list that binds the same is alike
  abbrev pub IsOnlyCoarse : List (Item (AnyRange K) V) → Type 0
  IsOnlyCoarse items = (others : List (Item (AnyRange K) V)) → IsCoarse order same_value others
      → BindAlike order same_value items others → AreAlike order same_value items others

  -- no list with the same bindings, disjoint or not, has fewer items
  abbrev pub IsLeastCount : List (Item (AnyRange K) V) → ℕ → Type 0
  IsLeastCount items n = (others : List (Item (AnyRange K) V))
      → BindAlike order same_value items others → n ≤ length others
