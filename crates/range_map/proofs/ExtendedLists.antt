-- One item more that is bound after others.
use Rattle.range_map.proofs.Common.{arith, common_steps, ◌≡◌, Bool, List, [], ◌∷◌, ◌++◌, ◌↔◌, ◌⊎◌, inl, inr, Option, KeyOrder, Holds, AnyRange, Item, Binds, IsBound, IsBoundAfter, IsSomeOf, AreBoundAfter}
use Rattle.range_bulk.proofs.BoundKeys.{bound_split}

-- where the last of a list stands, that is parted at an item
record PartsBefore {X : Type 0} (xs front rest : List X) (x i : X) : Type 0 where
  others : List X
  behind : rest ≡ others ++ x ∷ []
  before : xs ≡ front ++ i ∷ others

last_or_before : {X : Type 0} (xs front rest : List X) (x i : X)
    → xs ++ x ∷ [] ≡ front ++ i ∷ rest → ((rest ≡ []) × (x ≡ i)) ⊎ PartsBefore xs front rest x i
last_or_before [] [] rest x i e = inl (cc, cc)
last_or_before [] (y ∷ []) rest x i e = absurd (cc)
last_or_before [] (y ∷ z ∷ front) rest x i e = absurd (cc)
last_or_before (y ∷ xs) [] rest x i e = inr (record { others = xs; behind = cc; before = cc })
last_or_before (y ∷ xs) (z ∷ front) rest x i e =
    grind (arith, common_steps, last_or_before xs front rest x i)

module _ {K : Type 0} (order : KeyOrder K) {V : Type 0} where
  module _ (same : V → V → Bool) where
    -- no item binds nothing
    pub none_bound_after : (items : List (Item (AnyRange K) V))
        → AreBoundAfter order same items items []
    none_bound_after items = grind (arith, common_steps, no_item)
      where
        no_item : (front rest : List (Item (AnyRange K) V)) (i : Item (AnyRange K) V)
            → [] ≡ front ++ i ∷ rest → ⊥
        no_item [] rest i e = absurd (cc)
        no_item (j ∷ front) rest i e = absurd (cc)

    module _ (before now after items : List (Item (AnyRange K) V)) (r : AnyRange K) (v : V)
        (was : AreBoundAfter order same before now items)
        (one : IsBoundAfter order same now after r v) where
      abbrev last : Item (AnyRange K) V
      last = record { key = r; value = v }

      earlier_binds : (front rest : List (Item (AnyRange K) V)) (i : Item (AnyRange K) V) (k : K)
          → order.is_key k → PartsBefore items front rest last i → Holds order i.key k
          → (IsBound order rest k → ⊥) → (b : Option V) → Binds order same after k b
          ↔ IsSomeOf order same i.value b
      earlier_binds front rest i k key parts holds unheld b =
          let others = parts.others in
          let none : IsBound order (others ++ last ∷ []) k → ⊥ =
          λ h. unheld (rw parts.behind h) in
          let all = bound_split order others (last ∷ []) k in
          let own = one.others k key (λ h. none (all.1 (inr (inl h)))) b in
          grind (arith, common_steps)

      -- one more is bound after the others
      pub one_bound_after : AreBoundAfter order same before after
          (items ++ record { key = r; value = v } ∷ [])
      one_bound_after =
          record {
            held = λ front rest i e k key holds unheld b.
                elim (last_or_before items front rest last i e) [
                  | inl h ↦ grind (arith, common_steps)
                  | inr h ↦ earlier_binds front rest i k key h holds unheld b
                ];
            others = λ k key unheld b.
                let all = bound_split order items (last ∷ []) k in
                let own = one.others k key (λ h. unheld (all.1 (inr (inl h)))) b in
                let old = was.others k key (λ h. unheld (all.1 (inl h))) b in
                (λ h. old.0 (own.0 h), λ h. own.1 (old.1 h));
          }
