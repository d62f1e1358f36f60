-- Laws of sets that are made of two others, as one relation or another makes them.
use Rattle.std.specs.Prelude.{List}
use Rattle.range_keys.specs.Order.{KeyOrder}
use Rattle.range_algebra.specs.declared.any.AnyRange.{AnyRange}
use Rattle.range_store.specs.declared.storage.Item.{Item}
use Rattle.range_set_extend.specs.KeySets.{HoldAlike, HoldsTheOthers}

-- a third list has the keys that it is to have of two others
abbrev pub Making : Type 0 → Type 1
Making K =
    List (Item (AnyRange K) (Unit {0})) → List (Item (AnyRange K) (Unit {0}))
    → List (Item (AnyRange K) (Unit {0})) → Type 0

module _ {K : Type 0} (order : KeyOrder K) where
  abbrev Keys : Type 0
  Keys = List (Item (AnyRange K) (Unit {0}))

  module _ (Makes : Making K) where
    -- it does not matter which of two sets comes first
    abbrev pub Commutes : Type 0
    Commutes = (a b ab ba : Keys) → Makes a b ab → Makes b a ba → HoldAlike order ab ba

    -- nor which two of three sets are put together first
    abbrev pub Associates : Type 0
    Associates = (a b c ab bc left right : Keys) → Makes a b ab → Makes ab c left → Makes b c bc
        → Makes a bc right → HoldAlike order left right

    module _ (MakesOther : Making K) where
      -- a set put together with what is made of two is made of what it makes with each
      abbrev pub Distributes : Type 0
      Distributes = (a b c bc ab ac left right : Keys) → MakesOther b c bc → Makes a bc left
          → Makes a b ab → Makes a c ac → MakesOther ab ac right → HoldAlike order left right

      -- the complement of what the one makes is what the other makes of the complements
      abbrev pub IsDual : Type 0
      IsDual = (a b not_a not_b ab left right : Keys) → HoldsTheOthers order a not_a
          → HoldsTheOthers order b not_b → Makes a b ab → HoldsTheOthers order ab left
          → MakesOther not_a not_b right → HoldAlike order left right

      -- the one makes of two sets what the other makes of the first and the second's complement
      abbrev pub TakesComplement : Type 0
      TakesComplement = (a b not_b left right : Keys) → HoldsTheOthers order b not_b
          → Makes a b left → MakesOther a not_b right → HoldAlike order left right
