-- Two lists of ranges, by the keys that they bind: where they share none, and where the one binds
-- all of the other.
use Rattle.range_map.proofs.Common.{arith, common_steps, ◌≡◌, refl, inl, inr, Bool, true, Some, List, [], ◌∷◌, Bound, Included, Excluded, Unbounded, Ordering, IsEquivalence, KeyOrder, IsLawful, IsComplete, start_position, end_position, position_cmp, Position, Beside, At, flipped, lower, upper, past, Le, Lt, Any, Holds, IsKeyRange, IsBoundOfKey, AnyRange, Item, IsBound, line_of, LiesIn, IsStored, past_is_start, held_between, flipped_bound_is_past, reaching_is_before_past, flipped_known, unbounded_end, MeetNowhere, LieInside, ShareNoKey, BindKeysOf, chain_above, lies_in, Known, Chained, nonempty_good, stored_chain, stored_known, binding_meets, meeting_binds, le_refl, lt_le, eq_le, eq_ge, le_trans, lt_not_le, lt_trans, cases, le_lt_trans, lt_le_trans, not_le, nonempty_holds}
use Rattle.range_keys.proofs.BoundPositions.{starts_lie_at_starts, ends_lie_at_ends}
use Rattle.range_algebra.proofs.Canonical.{NotPast, IsBefore, KeyFrom, key_from}
use Rattle.range_merge.proofs.HeldInside.{inside_holds}
use Rattle.range_bulk.proofs.BoundKeys.{below_all}
use Rattle.range_map.proofs.StoredLists.{tail_is_stored}

abbrev any_same : {V : Type 0} → V → V → Bool
any_same _ _ = true

all_same : {V : Type 0} → IsEquivalence {K = V} any_same
all_same = record { refl = λ x. refl; symm = λ x y. refl; congr = λ x y z e. refl }

module _ {K : Type 0} {order : KeyOrder K} (lawful : IsLawful order) where
  abbrev cmp : Position K → Position K → Ordering
  cmp = position_cmp order.cmp

  abbrev Lo : AnyRange K → Position K
  Lo r = lower order r

  abbrev Hi : AnyRange K → Position K
  Hi r = upper order r

  module _ {V W : Type 0} where
    -- lists of which no ranges meet share no key
    pub apart_share_none : (items : List (Item (AnyRange K) V))
        (others : List (Item (AnyRange K) W))
        → MeetNowhere order items others → ShareNoKey order items others
    apart_share_none [] others apart k key bound other = bound
    apart_share_none (i ∷ items) others apart k key either other =
        grind (arith, common_steps, binding_meets, apart_share_none items others apart.1 k key)

    -- what lies inside binds no other keys
    pub inside_binds : (items : List (Item (AnyRange K) V)) (others : List (Item (AnyRange K) W))
        → LieInside order items others → BindKeysOf order items others
    inside_binds [] others inside k key bound = absurd bound
    inside_binds (i ∷ items) others inside k key either =
        grind (arith, common_steps, inside_holds, inside_binds items others inside.1 k key)

  module _ (complete : IsComplete order) where
    -- a key from the one place on and before the other, which a range holds
    abbrev HasKeyIn : AnyRange K → Position K → Type 0
    HasKeyIn r p = (k : K) × order.is_key k × Holds order r k × Le cmp p (Beside k At)

    -- a key of the range from a place on, where the place lies before its end
    from_bound : (r : AnyRange K) (b : Bound K) → IsKeyRange order r → IsBoundOfKey order b
        → Le cmp (Lo r) (start_position order b) → Lt cmp (start_position order b) (Hi r)
        → HasKeyIn r (start_position order b)
    from_bound r b known known_b from upto =
        let part : AnyRange K = record { start = b; end = r.end } in
        let found =
        nonempty_holds order lawful complete part (known_b, known.1)
        ((reaching_is_before_past order lawful b r.end known_b known.1).1 upto) in
        let at =
        (held_between order lawful part found.0 (known_b, known.1) found.1).0 found.2 in
        grind (arith, common_steps, held_between, le_trans)

    end_is_flipped : (r : AnyRange K) (e b : Bound K) → flipped e ≡ Some b → IsKeyRange order r
        → IsBoundOfKey order e → Le cmp (Lo r) (past order (end_position order e))
        → Lt cmp (past order (end_position order e)) (Hi r)
        → HasKeyIn r (past order (end_position order e))
    end_is_flipped r e b turns known known_e from upto =
        let at = flipped_bound_is_past order lawful e b turns in
        let found =
        from_bound r b known (flipped_known order lawful e b turns known_e)
        (le_trans lawful _ _ _ from (eq_le lawful _ _ at))
        (le_lt_trans lawful _ _ _ (eq_ge lawful _ _ at) upto) in (
          found.0,
          found.1,
          found.2,
          le_trans lawful _ _ _ (eq_le lawful _ _ at) found.3,
        )

    past_end : (r : AnyRange K) (e : Bound K) → IsKeyRange order r → IsBoundOfKey order e
        → Le cmp (Lo r) (past order (end_position order e))
        → Lt cmp (past order (end_position order e)) (Hi r)
        → HasKeyIn r (past order (end_position order e))
    past_end r Unbounded known known_e from upto =
        absurd (lt_not_le lawful _ _ upto (unbounded_end order lawful r.end known.1))
    past_end r (Included a) known known_e from upto =
        end_is_flipped r (Included a) (Excluded a) refl known known_e from upto
    past_end r (Excluded a) known known_e from upto =
        end_is_flipped r (Excluded a) (Included a) refl known known_e from upto

    -- a key of the range before the start of another that starts within it
    module _ {V : Type 0} (i : Item (AnyRange K) V) (known : IsKeyRange order i.key)
        (full : Lt cmp (Lo i.key) (Hi i.key)) where
      -- some key of the range lies from the place on and before the start
      before_start : (p : Position K) (b : Bound K)
          → ((k : K) → order.is_key k → Le cmp p (Beside k At)
          → Lt cmp (Beside k At) (start_position order b) → Holds order i.key k → ⊥)
          → HasKeyIn i.key p → KeyFrom order lawful complete p (start_position order b)
          → Le cmp (Lo i.key) p → ⊥
      unfolding NotPast IsBefore KeyFrom
      before_start p b none found key from =
          elim (cases lawful (start_position order b) (Hi i.key)) [
            | inl l ↦
                none key.0 key.1 key.2 key.3
                ((held_between order lawful i.key key.0 known key.1).1 (
                  le_trans lawful _ _ _ from key.2,
                  lt_trans lawful (Beside key.0 At) (start_position order b) (Hi i.key) key.3 l,
                ))
            | inr g ↦
                let at = (held_between order lawful i.key found.0 known found.1).0 found.2 in
                none found.0 found.1 found.3
                (lt_le_trans lawful (Beside found.0 At) (Hi i.key) (start_position order b) at.1 g)
                found.2
          ]

      module _ {W : Type 0} where
        abbrev Each : List (Item (AnyRange K) W) → Type 0
        Each ys = (k : K) → order.is_key k → Holds order i.key k → IsBound order ys k

        -- the first starts after the range does
        starts_late : (y : Item (AnyRange K) W) (ys : List (Item (AnyRange K) W))
            → Known order lawful any_same all_same (y ∷ ys)
            → Chained order lawful any_same all_same (y ∷ ys) → Each (y ∷ ys)
            → Lt cmp (Lo i.key) (Lo y.key) → ⊥
        unfolding IsBefore
        starts_late y ys known_ys chain each late =
            before_start (Lo i.key) y.key.start
            (λ k key from upto held. below_all order lawful (y ∷ ys) (Lo y.key) k key upto known_ys
            (chain_above (line_of order lawful any_same all_same) (Lo y.key) y ys chain
            (le_refl lawful _)) (each k key held))
            (from_bound i.key i.key.start known known.0 (le_refl lawful _) full)
            (grind (arith, common_steps, key_from, starts_lie_at_starts)) (le_refl lawful _)

        not_by_first : (y : Item (AnyRange K) W) (ys : List (Item (AnyRange K) W)) (k : K)
            → IsKeyRange order y.key → order.is_key k → Le cmp (Hi y.key) (Beside k At)
            → IsBound order (y ∷ ys) k → IsBound order ys k
        not_by_first y ys k known_y key over (inl held) =
            absurd (lt_not_le lawful _ _
            ((held_between order lawful y.key k known_y key).0 held).1 over)
        not_by_first y ys k known_y key over (inr bound) = bound

        -- the first ends within the range
        ends_early : (y : Item (AnyRange K) W) (ys : List (Item (AnyRange K) W))
            → Known order lawful any_same all_same (y ∷ ys)
            → Chained order lawful any_same all_same (y ∷ ys) → Each (y ∷ ys)
            → Le cmp (Lo i.key) (Hi y.key) → Lt cmp (Hi y.key) (Hi i.key) → ⊥
        unfolding IsBefore
        ends_early y [] known_ys chain each from early =
            let found = past_end i.key y.key.end known known_ys.0.1 from early in
            not_by_first y [] found.0 known_ys.0 found.1 found.3 (each found.0 found.1 found.2)
        ends_early y (z ∷ zs) known_ys chain each from early =
            let apart : Lt cmp (Hi y.key) (Lo z.key) =
            not_le lawful _ _ (λ le. chain.1.0.1 le refl) in
            before_start (Hi y.key) z.key.start
            (λ k key over upto held. below_all order lawful (z ∷ zs) (Lo z.key) k key upto
            known_ys.1
            (chain_above (line_of order lawful any_same all_same) (Lo z.key) z zs chain.1.1
            (le_refl lawful _)) (not_by_first y (z ∷ zs) k known_ys.0 key over (each k key held)))
            (past_end i.key y.key.end known known_ys.0.1 from early)
            (key_from order lawful complete (Hi y.key) (Lo z.key)
            (past_is_start order lawful (end_position order y.key.end) (Lo z.key) complete
            (ends_lie_at_ends order lawful y.key.end known_ys.0.1) apart)
            (starts_lie_at_starts order lawful z.key.start known_ys.1.0.0) apart) from

        chain_rest : (y : Item (AnyRange K) W) (ys : List (Item (AnyRange K) W))
            → Chained order lawful any_same all_same (y ∷ ys)
            → Chained order lawful any_same all_same ys
        chain_rest y list chain = grind (arith, common_steps)

        -- a range whose keys are all bound lies in one range of the list
        inside_some : (ys : List (Item (AnyRange K) W)) → Known order lawful any_same all_same ys
            → Chained order lawful any_same all_same ys → Each ys
            → Any (λ y. LiesIn order i.key y.key) ys
        inside_some [] known_ys chain each =
            let found = from_bound i.key i.key.start known known.0 (le_refl lawful _) full in
            each found.0 found.1 found.2
        inside_some (y ∷ ys) known_ys chain each =
            elim (cases lawful (Lo i.key) (Hi y.key)) [
              | inr past_it ↦
                  inr (inside_some ys known_ys.1 (chain_rest y ys chain) (λ k key held.
                  not_by_first y ys k known_ys.0 key
                  (le_trans lawful _ _ _ past_it
                  ((held_between order lawful i.key k known key).0 held).0) (each k key held)))
              | inl reaches ↦
                  grind (arith, common_steps, cases, starts_late, ends_early, lt_le, lies_in)
            ]

module _ {K : Type 0} {order : KeyOrder K} (lawful : IsLawful order) {V W : Type 0} where
  -- over complete keys lists that share no key meet nowhere
  pub share_none_apart : (same : V → V → Bool) (items : List (Item (AnyRange K) V))
      (others : List (Item (AnyRange K) W)) → IsStored order same items → IsComplete order
      → (same_other : W → W → Bool) → IsStored order same_other others
      → ShareNoKey order items others → MeetNowhere order items others
  share_none_apart same [] others stored complete same_other stored_other none = tt
  share_none_apart same (i ∷ items) others stored complete same_other stored_other none = (
    λ meets.
        let found =
        meeting_binds order lawful same_other others i.key complete stored_other stored.known.0
        stored.nonempty.0 meets in
        none found.0 found.1 (inl found.2) found.3,
    share_none_apart same items others (tail_is_stored lawful stored) complete same_other
        stored_other (λ k key bound other. none k key (inr bound) other),
  )

  -- over complete keys a list whose keys a set holds lies inside the set's ranges
  pub binds_inside : (same : V → V → Bool) (items : List (Item (AnyRange K) V))
      (others : List (Item (AnyRange K) W)) → IsStored order same items → IsComplete order
      → IsStored order (λ _ _. true) others → BindKeysOf order items others
      → LieInside order items others
  binds_inside same [] others stored complete stored_other binds = tt
  binds_inside same (i ∷ items) others stored complete stored_other binds = (
    inside_some lawful complete i stored.known.0
        ((nonempty_good order lawful i.key stored.known.0).0 stored.nonempty.0) others
        (stored_known order lawful any_same all_same others stored_other)
        (stored_chain order lawful any_same all_same others stored_other)
        (λ k key held. binds k key (inl held)),
    binds_inside same items others (tail_is_stored lawful stored) complete stored_other
        (λ k key bound. binds k key (inr bound)),
  )
