-- The keys that a list binds, by its parts and by its values.
use Rattle.range_bulk.proofs.Common.{arith, common_steps, ◌∙◌, ◌↔◌, ◌⊎◌, inl, inr, Bool, IsTrue, Option, List, [], ◌∷◌, ◌++◌, IsEquivalence, KeyOrder, IsLawful, position_cmp, Position, Overlap, Beside, At, Le, Lt, Every, Any, Holds, IsKeyRange, AnyRange, Item, IsBound, BindsTo, Binds, binds_bound, item_lower, item_ranges, holds_by_position, held_or_not, held_between, le_trans, lt_not_le}

one_more : {H A B C : Type 0} → A ↔ (B ⊎ C) → (H ⊎ A) ↔ ((H ⊎ B) ⊎ C)
one_more later = grind (arith, common_steps)

module _ {K : Type 0} {order : KeyOrder K} (lawful : IsLawful order) (k : K)
    (key : order.is_key k) where
  -- ranges that hold a key in common meet
  pub shared_key_is_overlap : (r s : AnyRange K) → Holds order r k → Holds order s k
      → Overlap order r s
  shared_key_is_overlap r s held other =
      grind (arith, common_steps, holds_by_position, lt_not_le, le_trans)

module _ {K : Type 0} (order : KeyOrder K) {V : Type 0} where
  -- a key is bound by one list after another where one of them binds it
  pub bound_split : (xs ys : List (Item (AnyRange K) V)) (k : K) → IsBound order (xs ++ ys) k
      ↔ (IsBound order xs k ⊎ IsBound order ys k)
  bound_split [] ys k = (λ h. inr h, λ h. elim h [ inl none ↦ absurd none | inr e ↦ e ])
  bound_split (x ∷ xs) ys k = one_more (bound_split xs ys k)

  pub bound_ranges : (items : List (Item (AnyRange K) V)) (k : K)
      → Any (λ r. Holds order r k) (item_ranges items) ↔ IsBound order items k
  bound_ranges [] k = (λ h. h, λ h. h)
  bound_ranges (i ∷ rest) k = grind (arith, common_steps, bound_ranges rest k)

  pub none_holds : (items : List (Item (AnyRange K) V)) (k : K)
      → (¬ IsBound order items k) ↔ Every (λ i. ¬ Holds order i.key k) items
  none_holds [] k = (λ h. tt, λ h none. none)
  none_holds (i ∷ rest) k = grind (arith, common_steps, none_holds rest k)

  module _ (same : V → V → Bool) where
    pub binds_split : (xs ys : List (Item (AnyRange K) V)) (k : K) (v : V)
        → BindsTo order same (xs ++ ys) k v
        ↔ (BindsTo order same xs k v ⊎ BindsTo order same ys k v)
    binds_split [] ys k v = (λ h. inr h, λ h. elim h [ inl none ↦ absurd none | inr e ↦ e ])
    binds_split (x ∷ xs) ys k v = one_more (binds_split xs ys k v)

    module _ (equal : IsEquivalence same) where
      -- a bound key is bound to some value
      pub bound_value : (items : List (Item (AnyRange K) V)) (k : K) → IsBound order items k
          → (v : V) × BindsTo order same items k v
      bound_value [] k h = absurd h
      bound_value (i ∷ rest) k (inl h) = (i.value, inl (h, equal.refl i.value))
      bound_value (i ∷ rest) k (inr h) = let found = bound_value rest k h in (found.0, inr found.1)

      -- and to each that equals it
      pub bound_to_equal : (items : List (Item (AnyRange K) V)) (k : K) (v w : V)
          → IsTrue (same v w) → BindsTo order same items k v → BindsTo order same items k w
      bound_to_equal [] k v w e h = h
      bound_to_equal (i ∷ rest) k v w e (inl h) = inl (h.0, equal.congr i.value v w h.1 ∙ e)
      bound_to_equal (i ∷ rest) k v w e (inr h) = inr (bound_to_equal rest k v w e h)

      -- a key is bound where each value that the one list gives it the other does
      pub bound_by : (xs ys : List (Item (AnyRange K) V)) (k : K)
          → ((v : V) → BindsTo order same xs k v → BindsTo order same ys k v)
          → IsBound order xs k → IsBound order ys k
      bound_by xs ys k to h = grind (arith, common_steps, bound_value, binds_bound)

      -- lists bind a key alike where they bind it to the same values
      pub binds_by : (xs ys : List (Item (AnyRange K) V)) (k : K)
          → ((v : V) → BindsTo order same xs k v ↔ BindsTo order same ys k v) → (b : Option V)
          → Binds order same xs k b ↔ Binds order same ys k b
      binds_by xs ys k alike option = grind (arith, common_steps, bound_by)

  module _ (lawful : IsLawful order) where
    pub bound_or_not : (items : List (Item (AnyRange K) V)) (k : K)
        → IsBound order items k ⊎ (¬ IsBound order items k)
    bound_or_not [] k = inr (λ none. none)
    bound_or_not (i ∷ rest) k = grind (arith, common_steps, held_or_not, bound_or_not rest k)

    -- a key before a place is bound by none that starts there or later
    pub below_all : (items : List (Item (AnyRange K) V)) (p : Position K) (k : K) → order.is_key k
        → Lt (position_cmp order.cmp) (Beside k At) p → Every (λ j. IsKeyRange order j.key) items
        → Every (λ j. Le (position_cmp order.cmp) p (item_lower order j)) items
        → ¬ IsBound order items k
    below_all [] p k key below known above bound = bound
    below_all (j ∷ items) p k key below known above either =
        let later = below_all items p k key below known.1 above.1 in
        grind (arith, common_steps, held_between, lt_not_le, le_trans)
