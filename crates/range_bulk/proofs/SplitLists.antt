-- A stored list cut in two at a key.
use Rattle.range_keys.proofs.Orderings.{any_then_equal}
use Rattle.range_bulk.proofs.Common.{common_steps, ◌≡◌, sym, ◌∙◌, ◌+◌, ◌≤◌, Bool, true, IsTrue, List, [], ◌∷◌, ◌++◌, length, arith, subst, Equal, inl, Bound, Included, Excluded, Unbounded, IsEquivalence, append_assoc, length-append, KeyOrder, IsLawful, Below, NotAbove, start_position, Position, Beside, At, SameBound, Le, Lt, Every, Holds, IsBoundOfKey, AnyRange, MeetsSome, Overlap, before_is, unbounded_end, lt_le_trans, lt_not_le, every_append, every_left, every_right, every_weaker, Item, line_of, IsLeft, IsRight, IsStored, item_lower, item_upper, held_between, same_is_symmetric, chain_before, places, Known, bound_hold, chain_stored, same_binds, stored_chain, stored_known, le_refl, lt_le, le_trans, not_lt, both}
use Rattle.range_runs.specs.Edits.{with_start}
use Rattle.range_bulk.specs.Splitting.{IsStoredSplit}
use Rattle.range_runs.proofs.ChainSides.{left_whole, left_cut, right_whole, right_cut, none_above, none_below}
use Rattle.range_runs.proofs.CutParts.{cut_end}
use Rattle.range_runs.proofs.RangePieces.{IsFull, all_full}

module _ {K : Type 0} {order : KeyOrder K} (lawful : IsLawful order) {V : Type 0}
    {same : V → V → Bool} (equal : IsEquivalence same) (key : K) (key_known : order.is_key key)
  where
    abbrev cut : Position K
    cut = start_position order (Included key)

    abbrev Front : List (Item (AnyRange K) V) → Type 0
    Front items = Every (λ i. Le (places order lawful) (item_upper order i) cut) items

    abbrev Back : List (Item (AnyRange K) V) → Type 0
    Back items = Every (λ i. Le (places order lawful) cut (item_lower order i)) items

    abbrev FromKey : AnyRange K
    FromKey = record { start = Included key; end = Unbounded }

    -- a stored range that ends after the key meets what lies from the key on
    reaching_meets : (items : List (Item (AnyRange K) V)) (i : Item (AnyRange K) V)
        → IsFull order lawful items FromKey i → Lt (places order lawful) cut (item_upper order i)
        → Overlap order i.key FromKey
    reaching_meets items i full reaches = (
      λ before. lt_not_le lawful _ _ reaches
          ((before_is order lawful i.key.end (Included key) full.0.1 key_known).0 before),
      λ after. lt_not_le lawful _ _
          (lt_le_trans lawful _ _ _ full.1 (unbounded_end order lawful i.key.end full.0.1))
          ((before_is order lawful Unbounded i.key.start tt full.0.0).0 after),
    )

    unmet_by : (items xs : List (Item (AnyRange K) V))
        → Every (IsFull order lawful items FromKey) xs → ¬ MeetsSome order xs FromKey
        → Front xs × Every (λ i. Lt (places order lawful) (item_lower order i) cut) xs
    unmet_by items [] full none = (tt, tt)
    unmet_by items (i ∷ xs) full none =
        let ends : Le (places order lawful) (item_upper order i) cut =
        not_lt lawful _ _ (λ reaches. none (inl (reaching_meets items i full.0 reaches))) in
        grind (arith, common_steps, unmet_by items xs full.1, lt_le_trans)

    -- where none meets what lies from the key on, each ends and starts before the key
    pub unmet_is_below : (items : List (Item (AnyRange K) V)) → IsStored order same items
        → ¬ MeetsSome order items FromKey
        → Front items × Every (λ i. Lt (places order lawful) (item_lower order i) cut) items
    unmet_is_below items form none =
        unmet_by items items (all_full order lawful same equal FromKey items
        (stored_known order lawful same equal items form)
        (stored_chain order lawful same equal items form)) none

    below_lies : (k : K) → Below order k key → Lt (places order lawful) (Beside k At) cut
    below_lies k h = any_then_equal (order.cmp k key) ∙ h

    from_lies : (k : K) → NotAbove order key k → Le (places order lawful) cut (Beside k At)
    from_lies k h = rw (any_then_equal (order.cmp key k)) h

    -- the items below the place of the key, and those from it on
    divided : (items front back : List (Item (AnyRange K) V)) → Known order lawful same equal items
        → Known order lawful same equal front → Known order lawful same equal back
        → IsLeft (line_of order lawful same equal) items front cut
        → IsRight (line_of order lawful same equal) items back cut
        → length front + length back ≤ length items + 1
        → IsStoredSplit order same key items front back
    divided items front back known front_known back_known left right few =
        let line = line_of order lawful same equal in
        record {
          split = record {
            below = λ k is_key h b.
                same_binds order lawful same equal items front k known front_known is_key
                (λ W respects. left.holds (Beside k At) W respects (below_lies k h)) b;
            from = λ k is_key h b.
                same_binds order lawful same equal items back k known back_known is_key
                (λ W respects. right.holds (Beside k At) W respects (from_lies k h)) b;
            none_from = λ k is_key h bound.
                none_above line (Beside k At) cut (λ u. true) front (from_lies k h) left.ends
                ((bound_hold order lawful same equal front k front_known is_key).0 bound);
            none_below = λ k is_key h bound.
                none_below line (Beside k At) cut (λ u. true) back (below_lies k h) right.starts
                ((bound_hold order lawful same equal back k back_known is_key).0 bound);
          };
          front_form = chain_stored order lawful same equal front front_known left.chain;
          back_form = chain_stored order lawful same equal back back_known right.chain;
          few = few;
        }

    -- no item is cut
    pub parted : (front back : List (Item (AnyRange K) V)) → IsStored order same (front ++ back)
        → Front front → Back back → IsStoredSplit order same key (front ++ back) front back
    parted front back form ends starts =
        let line = line_of order lawful same equal in
        let known = stored_known order lawful same equal (front ++ back) form in
        let chain = stored_chain order lawful same equal (front ++ back) form in
        let sum = length-append front back in
        divided (front ++ back) front back known (every_left _ front back known)
        (every_right _ front back known) (left_whole line front back cut chain ends starts)
        (right_whole line front back cut chain ends starts) (omega (arith, sum))

    module _ (front rest : List (Item (AnyRange K) V)) (x : Item (AnyRange K) V)
        (form : IsStored order same ((front ++ x ∷ []) ++ rest))
        (low : Lt (places order lawful) (item_lower order x) cut) (starts : Back rest) where
      together : (front ++ x ∷ []) ++ rest ≡ front ++ x ∷ rest
      together = append_assoc front (x ∷ []) rest

      -- the last item that starts below the key does not hold it
      pub last_parted : (Holds order x.key key → ⊥)
          → IsStoredSplit order same key ((front ++ x ∷ []) ++ rest) (front ++ x ∷ []) rest
      last_parted out =
          let line = line_of order lawful same equal in
          let whole = subst (IsStored order same) together form in
          let known = stored_known order lawful same equal (front ++ x ∷ rest) whole in
          let x_known = (every_right _ front _ known).0 in
          let chain = stored_chain order lawful same equal (front ++ x ∷ rest) whole in
          let at = held_between order lawful x.key key x_known key_known in
          let ends : Le (places order lawful) (item_upper order x) cut =
          not_lt lawful _ _ (λ reaches. out (at.1 (lt_le lawful _ _ low, reaches))) in
          parted (front ++ x ∷ []) rest form (every_append _ front (x ∷ [])
          (every_weaker _ _ front (λ z h.
          le_trans lawful _ _ _ h.0 (lt_le lawful _ _ low)) (chain_before line front x rest chain))
          (ends, tt)) starts

      -- it holds the key, and is cut there
      pub last_cut : (b : Bound K) (v : V) → IsBoundOfKey order b
          → SameBound order (Excluded key) b → IsTrue (same x.value v) → Holds order x.key key
          → IsStoredSplit order same key ((front ++ x ∷ []) ++ rest)
          (front ++ (record { key = record { start = x.key.start; end = b }; value = v }) ∷ [])
          (with_start x (Included key) ∷ rest)
      last_cut b v b_known same_b alike held =
          let line = line_of order lawful same equal in
          let whole = subst (IsStored order same) together form in
          let known = stored_known order lawful same equal (front ++ x ∷ rest) whole in
          let front_known = every_left _ front _ known in
          let x_known = (every_right _ front _ known).0 in
          let rest_known = (every_right _ front _ known).1 in
          let chain = stored_chain order lawful same equal (front ++ x ∷ rest) whole in
          let at = (held_between order lawful x.key key x_known key_known).0 held in
          let y : Item (AnyRange K) V =
          record { key = record { start = x.key.start; end = b }; value = v } in
          let z = with_start x (Included key) in
          let own : (p : Position K) → places order lawful p p ≡ Equal =
          λ p. both lawful _ _ (le_refl lawful _) (le_refl lawful _) in
          let at_end = cut_end order lawful x.key.start (Included key) b x_known.0 low same_b in
          let sum = length-append front (x ∷ rest) in
          let sum_front = length-append front (y ∷ []) in
          subst (λ items. IsStoredSplit order same key items (front ++ y ∷ []) (z ∷ rest))
          (sym together) (divided (front ++ x ∷ rest) (front ++ y ∷ []) _ known
          (every_append _ front (y ∷ []) front_known ((x_known.0, b_known), tt))
          ((key_known, x_known.1), rest_known)
          (left_cut line front x rest y cut chain low (lt_le lawful cut (item_upper order x) at.1)
          (own (item_lower order x)) at_end (same_is_symmetric line x.value v alike))
          (right_cut line front x rest z cut chain at.0 at.1 (own cut) (own (item_upper order x))
          (equal.refl x.value)) (omega (arith, sum, sum_front)))
