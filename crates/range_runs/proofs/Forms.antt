-- What is stored and bound, by places.
use Rattle.range_runs.proofs.Common.{arith, common_steps, ◌≡◌, ℕ, take, drop, refl, sym, ◌∙◌, ◌↔◌, Option, Some, None, Bool, true, IsTrue, List, [], ◌∷◌, ◌⊎◌, inl, inr, Every, Bound, Included, Excluded, Unbounded, Ordering, Less, IsEquivalence, KeyOrder, IsLawful, start_position, end_position, position_cmp, position_total, Position, Beside, At, eq_is_equal, AnyRange, Holds, IsBoundOfKey, IsKeyRange, IsEmptyRange, flipped, start_is_at, starts_at_end, Item, Le, Lt, eq_ge, le_trans, lt_not_le, not_le, not_lt, both, line_of, IsChain, Has, Respects, IsBoundTo, IsUnbound, past, lower, upper, IsStored, IsBound, BindsTo, Binds, IsSomeOf, IsBoundAfter, IsUnboundAfter, list_is_take_and_drop, every_left, every_right, reaching_is_before_past, flipped_bound_is_past, unbounded_end, held_between}
use Rattle.range_runs.proofs.Chains.{inside_or_out}
use Rattle.range_runs.proofs.Listed.{IsListed, stored_list_is_listed, stored_by}

pub every_front : {X : Type 0} (P : X → Type 0) (n : ℕ) (xs : List X) → Every P xs
    → Every P (take n xs)
every_front P n xs h = every_left P _ _ (rw (list_is_take_and_drop xs n) at h)

pub every_back : {X : Type 0} (P : X → Type 0) (n : ℕ) (xs : List X) → Every P xs
    → Every P (drop n xs)
every_back P n xs h = every_right P _ _ (rw (list_is_take_and_drop xs n) at h)

module _ {K : Type 0} (order : KeyOrder K) (lawful : IsLawful order) where
  abbrev pub places : Position K → Position K → Ordering
  places = position_cmp order.cmp

  -- a nonempty range starts below the place where it ends
  pub nonempty_good : (r : AnyRange K) → IsKeyRange order r → (IsEmptyRange order r → ⊥)
      ↔ Lt places (lower order r) (upper order r)
  nonempty_good r known =
      let reach = reaching_is_before_past order lawful r.start r.end known.0 known.1 in (grind (arith, common_steps))

  pub before_is : (e s : Bound K) → IsBoundOfKey order e → IsBoundOfKey order s
      → places (end_position order e) (start_position order s) ≡ Less
      ↔ Le places (past order (end_position order e)) (start_position order s)
  before_is e s known others =
      let reach = reaching_is_before_past order lawful s e others known in (
        λ h. not_lt lawful (past order (end_position order e)) (start_position order s)
            (λ k. lt_not_le lawful _ _ h (reach.1 k)),
        λ h. not_le lawful (end_position order e) (start_position order s)
            (λ k. lt_not_le lawful _ _ (reach.0 k) h),
      )

  pub touches_by : (e i : Bound K) (s : AnyRange K) → flipped e ≡ Some i
      → Le places (past order (end_position order e)) (lower order s)
      → IsTrue (start_is_at order (Some i) (lower order s))
      ↔ Le places (lower order s) (past order (end_position order e))
  touches_by e i s turns le = grind (arith, common_steps, flipped_bound_is_past, eq_is_equal, le_trans, eq_ge, position_total, both)

  -- a range touches another where the place past it is that of the other
  pub touches_is : (e : Bound K) (s : AnyRange K) → IsKeyRange order s
      → Lt places (lower order s) (upper order s)
      → Le places (past order (end_position order e)) (lower order s)
      → IsTrue (starts_at_end order e (lower order s))
      ↔ Le places (lower order s) (past order (end_position order e))
  touches_is (Included a) s known good le = touches_by (Included a) (Excluded a) s refl le
  touches_is (Excluded a) s known good le = touches_by (Excluded a) (Included a) s refl le
  touches_is Unbounded s known good le = grind (arith, common_steps, lt_not_le, le_trans, unbounded_end)

  module _ {V : Type 0} (same : V → V → Bool) (equal : IsEquivalence same) where
    abbrev pub Known : List (Item (AnyRange K) V) → Type 0
    Known items = Every (λ i. IsKeyRange order i.key) items

    abbrev pub Chained : List (Item (AnyRange K) V) → Type 0
    Chained items = IsChain (line_of order lawful same equal) items

    abbrev pub Hold : (V → Bool) → Position K → List (Item (AnyRange K) V) → Type 0
    Hold W p items = Has (line_of order lawful same equal) W p items

    pub stored_known : (items : List (Item (AnyRange K) V)) → IsStored order same items
        → Known items
    stored_known items h = h.known

    listed_chain : (items : List (Item (AnyRange K) V)) → Known items
        → IsListed order lawful same items → Chained items
    listed_chain [] known h = tt
    listed_chain (i ∷ []) known h = ((nonempty_good i.key known.0).0 h.1, tt)
    listed_chain (i ∷ j ∷ rest) known h = grind (arith, common_steps, common_steps, before_is, nonempty_good, touches_is, listed_chain (j ∷ rest) known.1 h.4)

    pub stored_chain : (items : List (Item (AnyRange K) V)) → IsStored order same items
        → Chained items
    stored_chain items h =
        listed_chain items h.known (stored_list_is_listed order lawful same items h)

    chain_listed : (items : List (Item (AnyRange K) V)) → Known items → Chained items
        → IsListed order lawful same items
    chain_listed [] known chain = tt
    chain_listed (i ∷ []) known chain = (known.0, (nonempty_good i.key known.0).1 chain.0)
    chain_listed (i ∷ j ∷ rest) known chain = grind (arith, common_steps, chain_listed (j ∷ rest) known.1 chain.1.1, nonempty_good, before_is, touches_is)

    pub chain_stored : (items : List (Item (AnyRange K) V)) → Known items → Chained items
        → IsStored order same items
    chain_stored items known chain =
        stored_by order lawful same items (chain_listed items known chain)

    pub binds_hold : (items : List (Item (AnyRange K) V)) (k : K) (v : V) → Known items
        → order.is_key k → BindsTo order same items k v ↔ Hold (λ u. same u v) (Beside k At) items
    binds_hold [] k v known key = (λ h. h, λ h. h)
    binds_hold (i ∷ rest) k v known key = grind (arith, common_steps, binds_hold rest k v known.1 key, held_between, common_steps)

    pub bound_hold : (items : List (Item (AnyRange K) V)) (k : K) → Known items → order.is_key k
        → IsBound order items k ↔ Hold (λ u. true) (Beside k At) items
    bound_hold [] k known key = (λ h. h, λ h. h)
    bound_hold (i ∷ rest) k known key = grind (arith, common_steps, bound_hold rest k known.1 key, held_between, common_steps)

    respects_same : (v : V) → Respects (line_of order lawful same equal) (λ u. same u v)
    respects_same v a b s h = sym (equal.congr a b v s) ∙ h

    pub respects_any : Respects (line_of order lawful same equal) (λ u. true)
    respects_any a b s h = h

    pub unheld_lies_outside : (r : AnyRange K) (k : K) → IsKeyRange order r → order.is_key k
        → (Holds order r k → ⊥)
        → Lt places (Beside k At) (lower order r) ⊎ Le places (upper order r) (Beside k At)
    unheld_lies_outside r k known key h = elim (inside_or_out (line_of order lawful same equal)
        (Beside k At) (lower order r) (upper order r)) [
          | inl within ↦ absurd (h ((held_between order lawful r k known key).1 within))
          | inr out ↦ out
        ]

    pub same_binds : (before after : List (Item (AnyRange K) V)) (k : K) → Known before
        → Known after → order.is_key k
        → ((W : V → Bool) → Respects (line_of order lawful same equal) W
        → Hold W (Beside k At) after ↔ Hold W (Beside k At) before) → (b : Option V)
        → Binds order same after k b ↔ Binds order same before k b
    same_binds before after k known known' key f (Some v) =
        let own = f (λ u. same u v) (respects_same v) in
        let old = binds_hold before k v known key in
        let new = binds_hold after k v known' key in
        (λ h. old.1 (own.0 (new.0 h)), λ h. new.1 (own.1 (old.0 h)))
    same_binds before after k known known' key f None =
        let own = f (λ u. true) respects_any in
        let old = bound_hold before k known key in
        let new = bound_hold after k known' key in
        (λ h e. h (new.1 (own.1 (old.0 e))), λ h e. h (old.1 (own.0 (new.0 e))))

    -- what the places of a key hold is its binding
    pub binds_as : (items : List (Item (AnyRange K) V)) (k : K) (v : V) → Known items
        → order.is_key k → ((W : V → Bool) → Respects (line_of order lawful same equal) W
        → Hold W (Beside k At) items ↔ (W v ≡ true)) → (b : Option V)
        → Binds order same items k b ↔ IsSomeOf order same v b
    binds_as items k v known key has (Some w) =
        let own = has (λ u. same u w) (respects_same w) in
        let here = binds_hold items k w known key in
        (λ h. own.0 (here.0 h), λ h. here.1 (own.1 h))
    binds_as items k v known key has None = (
      λ h. h ((bound_hold items k known key).1 ((has (λ u. true) respects_any).1 refl)),
      λ h. absurd h,
    )

    pub unbinds_as : (items : List (Item (AnyRange K) V)) (k : K) → Known items → order.is_key k
        → ((W : V → Bool) → Respects (line_of order lawful same equal) W
        → Hold W (Beside k At) items ↔ ⊥) → (b : Option V)
        → Binds order same items k b ↔ (b ≡ None)
    unbinds_as items k known key has (Some w) = (
      λ h. absurd ((has (λ u. same u w) (respects_same w)).0 ((binds_hold items k w known key).0 h)),
      λ h. absurd (cc),
    )
    unbinds_as items k known key has None = (
      λ h. refl,
      λ h e. (has (λ u. true) respects_any).0 ((bound_hold items k known key).0 e),
    )

    pub bound_after : (before after : List (Item (AnyRange K) V)) (r : AnyRange K) (v : V)
        → IsKeyRange order r → Known before → Known after
        → IsBoundTo (line_of order lawful same equal) before after (lower order r) (upper order r) v
        → IsBoundAfter order same before after r v
    bound_after before after r v known_range known known' changed = record {
      held = grind (arith, common_steps, held_between, binds_as);
      others = λ k key h. same_binds before after k known known' key
          (λ W alike. changed.outside (Beside k At) W alike (unheld_lies_outside r k known_range key
          h));
    }

    pub unbound_after : (before after : List (Item (AnyRange K) V)) (r : AnyRange K)
        → IsKeyRange order r → Known before → Known after
        → IsUnbound (line_of order lawful same equal) before after (lower order r) (upper order r)
        → IsUnboundAfter order same before after r
    unbound_after before after r known_range known known' changed = record {
      held = grind (arith, common_steps, held_between, unbinds_as);
      others = λ k key h. same_binds before after k known known' key
          (λ W alike. changed.outside (Beside k At) W alike (unheld_lies_outside r k known_range key
          h));
    }
