-- Which keys a set holds that is made of two others.
use Rattle.std.specs.Prelude.{Bool, IsTrue, List, ◌⊎◌, ◌↔◌}
use Rattle.range_keys.specs.Order.{KeyOrder}
use Rattle.range_algebra.specs.declared.any.AnyRange.{AnyRange}
use Rattle.range_store.specs.declared.storage.Item.{Item}
use Rattle.range_set_extend.specs.KeySets.{HoldsKey}

module _ {K : Type 0} (order : KeyOrder K) {V W X : Type 0} (items : List (Item (AnyRange K) V))
    (others : List (Item (AnyRange K) W)) (new : List (Item (AnyRange K) X)) where
  -- just the keys of either list
  abbrev pub HoldsEither : Type 0
  HoldsEither = (k : K) → order.is_key k → HoldsKey order new k
      ↔ (HoldsKey order items k ⊎ HoldsKey order others k)

  -- just the keys that both lists hold
  abbrev pub HoldsBoth : Type 0
  HoldsBoth = (k : K) → order.is_key k → HoldsKey order new k
      ↔ (HoldsKey order items k × HoldsKey order others k)

  -- just the keys of the first list that the second does not hold
  abbrev pub HoldsFirstAlone : Type 0
  HoldsFirstAlone = (k : K) → order.is_key k → HoldsKey order new k
      ↔ (HoldsKey order items k × (¬ HoldsKey order others k))

  -- just the keys that one of the lists holds, and not the other
  abbrev pub HoldsJustOne : Type 0
  HoldsJustOne = (k : K) → order.is_key k → HoldsKey order new k
      ↔ ((HoldsKey order items k × (¬ HoldsKey order others k))
      ⊎ ((¬ HoldsKey order items k) × HoldsKey order others k))

  module _ (op : Bool → Bool → Bool) where
    -- the key is held just where the test says so of which list holds it
    pub record IsKeptAt (k : K) : Type 0 where
      pub first : Bool
      pub second : Bool
      pub in_first : IsTrue first ↔ HoldsKey order items k
      pub in_second : IsTrue second ↔ HoldsKey order others k
      pub is : IsTrue (op first second) ↔ HoldsKey order new k

    -- each key of either list is held as the test says, and no other key is held
    pub record AreKept : Type 0 where
      pub held : (k : K) → order.is_key k → HoldsKey order items k ⊎ HoldsKey order others k
          → IsKeptAt k
      pub free : (k : K) → order.is_key k → ¬ HoldsKey order items k → ¬ HoldsKey order others k
          → ¬ HoldsKey order new k
