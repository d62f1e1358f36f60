-- Values by their places.
use Rattle.std.proofs.Common.{◌≡◌, ℕ, zero, suc, ◌+◌, ◌≤◌, ◌<◌, Bool, true, false, if◌then◌else◌, List, [], ◌∷◌, ◌++◌, length, length-append, Option, Some, None, IfSome, refl, ap, sym, ◌∙◌, arith}
use Rattle.std.specs.Cmp.{IsEquivalence}
use Rattle.std.specs.List.{slice_get}
use Rattle.std.specs.Option.{option_map}
use Rattle.shortest_tables.specs.Numbers.{IsNumbered}
use Rattle.address_tables.specs.Numbers.{IsAmong, place}

module _ {V : Type 0} (same_value : V → V → Bool) where
  at_place_by : (values : List V) (w v u : V) (same : Bool) → same_value w v ≡ same
      → (slice_get values (place same_value values v) ≡ Some u → same_value u v ≡ true)
      → slice_get (w ∷ values) (if same then 0 else suc (place same_value values v)) ≡ Some u
      → same_value u v ≡ true
  at_place_by values w v u true same later is =
      let e : w ≡ u = cc in ap (λ x. same_value x v) (sym e) ∙ same
  at_place_by values w v u false same later is = later is

  -- the value at the place of another equals it
  pub at_place : (values : List V) (v u : V)
      → slice_get values (place same_value values v) ≡ Some u → same_value u v ≡ true
  at_place [] v u is = cc
  at_place (w ∷ values) v u is =
      at_place_by values w v u (same_value w v) refl (at_place values v u) is

  place_append_by : (values more : List V) (w v : V) (same : Bool)
      → (IsAmong same_value values v
      → place same_value (values ++ more) v ≡ place same_value values v)
      → (if same then 0 else suc (place same_value values v)) < length (w ∷ values)
      → (if same then 0 else suc (place same_value (values ++ more) v))
      ≡ (if same then 0 else suc (place same_value values v))
  place_append_by values more w v true again is = refl
  place_append_by values more w v false again is = ap (λ n. suc n) (again (omega arith))

  place_append : (values more : List V) (v : V) → IsAmong same_value values v
      → place same_value (values ++ more) v ≡ place same_value values v
  place_append [] more v is = absurd (omega arith)
  place_append (w ∷ values) more v is =
      place_append_by values more w v (same_value w v) (place_append values more v) is

  -- a value that is among others is among more
  pub among_more : (values more : List V) (v : V) → IsAmong same_value values v
      → IsAmong same_value (values ++ more) v
  among_more values more v is =
      let same = place_append values more v is in
      let long = length-append values more in omega arith

  module _ (laws : IsEquivalence same_value) where
    same_as : (u v w : V) → same_value u v ≡ true → same_value w u ≡ same_value w v
    same_as u v w is = laws.symm w u ∙ laws.congr u v w is ∙ laws.symm v w

    -- equal values have the same place
    pub same_place : (values : List V) (u v : V) → same_value u v ≡ true
        → place same_value values u ≡ place same_value values v
    same_place [] u v is = refl
    same_place (w ∷ values) u v is = rw (same_as u v w is, same_place values u v is) refl

    last_by : (values : List V) (w v : V) (same : Bool)
        → IsAmong same_value (values ++ v ∷ []) v
        → (if same then 0 else suc (place same_value (values ++ v ∷ []) v))
        < suc (length (values ++ v ∷ []))
    last_by values w v true is = omega arith
    last_by values w v false is = omega arith

    -- a value is among those that end with it
    pub among_last : (values : List V) (v : V) → IsAmong same_value (values ++ v ∷ []) v
    among_last [] v = rw (laws.refl v) (omega arith)
    among_last (w ∷ values) v = last_by values w v (same_value w v) (among_last values v)

module _ {V : Type 0} (same_value : V → V → Bool) where
  at_most_by : (values : List V) (v : V) (same : Bool)
      → place same_value values v ≤ length values
      → (if same then 0 else suc (place same_value values v)) ≤ suc (length values)
  at_most_by values v true is = omega arith
  at_most_by values v false is = omega arith

  pub at_most : (values : List V) (v : V) → place same_value values v ≤ length values
  at_most [] v = omega arith
  at_most (w ∷ values) v = at_most_by values v (same_value w v) (at_most values v)

  -- the place of a value that is there, or of none, is below how many there are
  pub numbered_other : (values : List V) (otherwise : Option V) (count : ℕ) → length values ≡ count
      → IfSome otherwise (IsAmong same_value values)
      → IsNumbered count (option_map (place same_value values) otherwise)
  numbered_other values None count all among = tt
  numbered_other values (Some v) count all among = omega arith
