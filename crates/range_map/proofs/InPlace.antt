-- The items of a list that are bound one after the other, and ranges that are unbound so.
use Rattle.range_map.proofs.Common.{arith, common_steps, append_assoc, ◌≡◌, refl, subst, ◌∙◌, ◌↔◌, ◌⊎◌, inl, inr, Bool, true, List, [], ◌∷◌, ◌++◌, Option, Some, None, IsEquivalence, Equal, KeyOrder, IsLawful, Any, Holds, range_cmp, AnyRange, Item, IsBound, BindsTo, Binds, IsSomeOf, IsBoundAfter, IsUnboundAfter, IsStored, item_ranges, IsHeldOnce, IsOverlaid, IsRestricted, IsWithout, equal_is_same, held_or_not, AreUnboundAfter}
use Rattle.range_bulk.proofs.BoundKeys.{bound_split, binds_split, binds_by}
use Rattle.range_map.proofs.HeldOnce.{one_of_two}
use Rattle.range_map.proofs.Once.{bound_once}

module _ {K : Type 0} (order : KeyOrder K) where
  -- with one item more the keys of its range are bound too
  bound_with : {V : Type 0} (items : List (Item (AnyRange K) V)) (i : Item (AnyRange K) V) (k : K)
      → IsBound order (items ++ i ∷ []) k ↔ (IsBound order items k ⊎ Holds order i.key k)
  bound_with items i k = grind (arith, common_steps, bound_split)

  -- and with one range more
  held_with : (done : List (AnyRange K)) (g : AnyRange K) (k : K)
      → Any (λ s. Holds order s k) (done ++ g ∷ [])
      ↔ (Any (λ s. Holds order s k) done ⊎ Holds order g k)
  held_with [] g k = grind arith
  held_with (r ∷ done) g k = grind (arith, held_with done g k)

  module _ {V : Type 0} (same : V → V → Bool) where
    abbrev Items : Type 0
    Items = List (Item (AnyRange K) V)

    -- no such key is bound, and each other key as before
    record AreUnbound (IsSuch : K → Type 0) (before after : Items) : Type 0 where
      gone : (k : K) → order.is_key k → IsSuch k → ¬ IsBound order after k
      kept : (k : K) → order.is_key k → ¬ IsSuch k → (b : Option V) → Binds order same after k b
          ↔ Binds order same before k b

    -- and the keys of one range more
    one_more : IsLawful order → (IsSuch IsNow : K → Type 0) (first before after : Items)
        (r : AnyRange K) → ((k : K) → order.is_key k → IsNow k ↔ (IsSuch k ⊎ Holds order r k))
        → AreUnbound IsSuch first before → IsUnboundAfter order same before after r
        → AreUnbound IsNow first after
    one_more lawful IsSuch IsNow first before after r is was one =
        record {
          gone = λ k key h.
              elim (held_or_not order lawful r k) [
                | inl held ↦ (one.held k key held None).1 refl
                | inr out ↦ grind (arith, one.others k key out None, is k key)
              ];
          kept = λ k key none b.
              let own = one.others k key (λ held. none ((is k key).1 (inr held))) b in
              grind (arith, common_steps);
        }

    -- a map without the keys of no item
    pub none_without : {W : Type 0} (items : Items) → IsWithout order same items {W = W} [] items
    none_without items =
        record { gone = λ k key h. absurd h; kept = λ k key none b. (λ h. h, λ h. h) }

    -- and without those of one item more
    pub one_without : IsLawful order → {W : Type 0} (first before after : Items)
        (done : List (Item (AnyRange K) W)) (i : Item (AnyRange K) W)
        → IsWithout order same first done before → IsUnboundAfter order same before after i.key
        → IsWithout order same first (done ++ i ∷ []) after
    one_without lawful first before after done i was one =
        let now =
        one_more lawful (λ k. IsBound order done k) (λ k. IsBound order (done ++ i ∷ []) k) first
        before after i.key (λ k key. bound_with done i k)
        (record { gone = was.gone; kept = was.kept }) one in
        record { gone = now.gone; kept = now.kept }

    pub none_unbound : (items : Items) → AreUnboundAfter order same items items []
    none_unbound items =
        record { gone = λ k key h. absurd h; kept = λ k key none b. (λ h. h, λ h. h) }

    -- one range more is unbound, by one that equals it
    pub one_unbound : IsLawful order → (first before after : Items) (done : List (AnyRange K))
        (g r : AnyRange K) → range_cmp order r g ≡ Equal
        → AreUnboundAfter order same first before done → IsUnboundAfter order same before after r
        → AreUnboundAfter order same first after (done ++ g ∷ [])
    one_unbound lawful first before after done g r e was one =
        let now =
        one_more lawful (λ k. Any (λ s. Holds order s k) done)
        (λ k. Any (λ s. Holds order s k) (done ++ g ∷ [])) first before after r
        (λ k key. grind (arith, held_with done g k, equal_is_same order lawful r g e k key))
        (record { gone = was.gone; kept = was.kept }) one in
        record { gone = now.gone; kept = now.kept }

    -- without the keys of all gaps, those are left that the other list binds
    pub all_kept : {W : Type 0} (items new : Items) (others : List (Item (AnyRange K) W))
        (gaps : List (AnyRange K))
        → ((k : K) → order.is_key k → IsHeldOnce order (item_ranges others ++ gaps) k)
        → AreUnboundAfter order same items new gaps → IsRestricted order same items others new
    all_kept items new others gaps once h = grind (arith, common_steps, one_of_two)

    -- nothing overlays a map
    pub none_over : (items : Items) → IsOverlaid order same items [] items
    none_over items =
        record { over = λ k key h. absurd h; under = λ k key none b. (λ h. h, λ h. h) }

    module _ (lawful : IsLawful order) (equal : IsEquivalence same) where
      -- an item that does not hold the key binds it to nothing
      without_last : (done : Items) (i : Item (AnyRange K) V) (k : K) → ¬ Holds order i.key k
          → (b : Option V) → Binds order same (done ++ i ∷ []) k b ↔ Binds order same done k b
      without_last done i k out = grind (arith, common_steps, binds_by, binds_split)

      same_some : (v w : V) → same v w ≡ true → (b : Option V) → IsSomeOf order same v b
          ↔ IsSomeOf order same w b
      same_some v w e option = grind (arith, common_steps, equal.congr)

      module _ (others : Items) (stored : IsStored order same others) (done rest : Items)
          (i : Item (AnyRange K) V) (split : done ++ i ∷ rest ≡ others) where
        -- a key of an item is bound to its value alone
        to_value : (k : K) → order.is_key k → Holds order i.key k → (b : Option V)
            → Binds order same (done ++ i ∷ []) k b ↔ IsSomeOf order same i.value b
        to_value k key held None =
            (λ free. free ((bound_with done i k).1 (inr held)), λ none. absurd none)
        to_value k key held (Some v) =
            let among = λ (w : V) (h : BindsTo order same (done ++ i ∷ []) k w).
            subst (λ l. BindsTo order same l k w) (append_assoc done (i ∷ []) rest ∙ split)
            ((binds_split order same (done ++ i ∷ []) rest k w).1 (inl h)) in
            let last = λ (w : V) (e : same i.value w ≡ true).
            (binds_split order same done (i ∷ []) k w).1 (inr (inl (held, e))) in
            grind (arith, common_steps, bound_once, equal.refl)

        -- one item more is bound over the map, by a range and a value that equal its own
        pub one_over : (first before after : Items) (r : AnyRange K) (v : V)
            → range_cmp order r i.key ≡ Equal → same i.value v ≡ true
            → IsOverlaid order same first done before → IsBoundAfter order same before after r v
            → IsOverlaid order same first (done ++ i ∷ []) after
        one_over first before after r v e f was one =
            record {
              over = λ k key bound b.
                  let alike = equal_is_same order lawful r i.key e k key in
                  elim (held_or_not order lawful i.key k) [
                    | inl held ↦
                        let new = one.held k key (alike.1 held) b in
                        let value = to_value k key held b in
                        grind (arith, same_some i.value v f b)
                    | inr out ↦
                        let own = one.others k key (λ h. out (alike.0 h)) b in
                        let last = without_last done i k out b in
                        grind (arith, bound_with done i k, was.over k key)
                  ];
              under = λ k key free b.
                  let alike = equal_is_same order lawful r i.key e k key in
                  let last = bound_with done i k in
                  let own = one.others k key (λ h. free (last.1 (inr (alike.0 h)))) b in
                  let old = was.under k key (λ h. free (last.1 (inl h))) b in
                  (λ h. old.0 (own.0 h), λ h. own.1 (old.1 h));
            }
