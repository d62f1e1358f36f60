-- A list in stored form binds a key once.
use Rattle.range_map.proofs.Common.{arith, common_steps, Bool, IsTrue, List, [], ◌∷◌, inl, inr, IsEquivalence, KeyOrder, IsLawful, Position, AnyRange, Item, BindsTo, item_upper, IsStored, binds_bound}
use Rattle.range_bulk.proofs.JoinedItems.{RisesFrom, first_alone, stored_rises}

module _ {K : Type 0} {order : KeyOrder K} (lawful : IsLawful order) {V : Type 0}
    {same : V → V → Bool} (equal : IsEquivalence same) where
  abbrev Items : Type 0
  Items = List (Item (AnyRange K) V)

  two_bindings_are_same : (k : K) → order.is_key k → (m : Position K) (items : Items) (v w : V)
      → RisesFrom order m items → BindsTo order same items k v → BindsTo order same items k w
      → IsTrue (same v w)
  two_bindings_are_same k key m [] v w rises b c = absurd b
  two_bindings_are_same k key m (i ∷ rest) v w rises (inl b) either =
      grind (arith, common_steps, equal.congr, first_alone, binds_bound)
  two_bindings_are_same k key m (i ∷ rest) v w rises (inr b) (inl c) =
      absurd (first_alone lawful k key m i rest rises c.0 (binds_bound order same rest k v b))
  two_bindings_are_same k key m (i ∷ rest) v w rises (inr b) (inr c) =
      two_bindings_are_same k key (item_upper order i) rest v w rises.3 b c

  pub bound_once : (items : Items) → IsStored order same items → (k : K) → order.is_key k
      → (v w : V) → BindsTo order same items k v → BindsTo order same items k w → IsTrue (same v w)
  bound_once items form k key v w =
      two_bindings_are_same k key _ items v w (stored_rises lawful equal items form)
