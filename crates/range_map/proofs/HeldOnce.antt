-- A key that the ranges of a list and its gaps share out.
use Rattle.range_map.proofs.Common.{arith, common_steps, ◌⊎◌, inl, inr, List, [], ◌∷◌, ◌++◌, KeyOrder, Any, Holds, AnyRange, any_none, every_right, Item, IsBound, item_ranges, IsHeldOnce}

module _ {K : Type 0} (order : KeyOrder K) where
  some_once : (ranges : List (AnyRange K)) (k : K) → IsHeldOnce order ranges k
      → Any (λ r. Holds order r k) ranges
  some_once [] k h = h
  some_once (r ∷ ranges) k h =
      elim h [ inl held ↦ inl held.0 | inr later ↦ inr (some_once ranges k later.1) ]

  -- a key is held by an item or by a gap, and not by both
  pub one_of_two : {V : Type 0} (items : List (Item (AnyRange K) V)) (gaps : List (AnyRange K))
      (k : K) → IsHeldOnce order (item_ranges items ++ gaps) k
      → (IsBound order items k × (¬ Any (λ r. Holds order r k) gaps)) ⊎
      ((¬ IsBound order items k) × Any (λ r. Holds order r k) gaps)
  one_of_two [] gaps k h = inr (λ b. b, some_once gaps k h)
  one_of_two (i ∷ items) gaps k h = elim h [
    | inl held ↦
        inl (
          inl held.0,
          any_none _ _ gaps
              (every_right _ (item_ranges items) gaps held.1) (λ r out held. out held),
        )
    | inr later ↦ grind (arith, common_steps, one_of_two items gaps k later.1)
  ]
