-- Which bounds are written as those of a list that lie at the same places.
use Rattle.range_runs.proofs.Common.{common_steps, ◌≡◌, refl, sym, subst, ◌∙◌, ℕ, zero, suc, ◌-◌, arith, Option, Some, None, Bool, List, [], ◌∷◌, ◌++◌, ◌⊎◌, inl, inr, length, get_or, append_assoc, if◌then◌else◌, Every, slice_set, Bound, Ordering, Less, Equal, Greater, is_lt, is_gt, IsEquivalence, KeyOrder, IsLawful, start_position, end_position, position_total, Position, AnyRange, IsBoundClone, SameBound, same_itself, common, lower, upper, le_refl, lt_le, eq_le, eq_ge, lt_not_le, lt_le_trans, le_lt_trans, PLe, PLt, IsKeyRange, gt_le, every_weaker, every_append, every_left, every_right, every_at, reaching_is_before_past, Item, IsPut, line_of, flipped_bound, with_end, IsStartAsIn, IsEndAsIn, IsSpelledAsIn, KeepsSpelling, position_cmp}
use Rattle.range_runs.proofs.Chains.{chain_before, chain_right, follows_above}
use Rattle.range_runs.proofs.CutParts.{cut_end, cut_start, known_turned, same_turned}
use Rattle.range_runs.proofs.RangePieces.{every_with}
use Rattle.range_runs.proofs.Forms.{places, Known, Chained, before_is}
use Rattle.range_runs.proofs.CoveredPlaces.{chained_items_have_places}
use Rattle.range_runs.proofs.Windows.{every_both}

-- the two sides of a range
pub data RangeSide : Type 0 where
  StartSide : RangeSide
  EndSide : RangeSide

-- the bound of a range on a side
abbrev pub bound_on : {K : Type 0} → RangeSide → AnyRange K → Bound K
bound_on StartSide s = s.start
bound_on EndSide s = s.end

module _ {K : Type 0} (order : KeyOrder K) where
  -- the place of a bound on a side
  abbrev pub place_on : RangeSide → Bound K → Position K
  place_on StartSide b = start_position order b
  place_on EndSide b = end_position order b

  module _ {V : Type 0} (items : List (Item (AnyRange K) V)) where
    -- an item with the place of the bound on the side has the same bound there
    abbrev pub IsAsIn : RangeSide → Bound K → Type 0
    IsAsIn side b = Every (λ i. position_cmp order.cmp (place_on side (bound_on side i.key))
        (place_on side b) ≡ Equal → SameBound order (bound_on side i.key) b) items

    -- what is written as a bound of the range is written as in the list
    abbrev pub IsKeptIn : AnyRange K → Type 0
    IsKeptIn key = (side : RangeSide) (b : Bound K) → SameBound order (bound_on side key) b
        → IsAsIn side b

every_set : {X : Type 0} (P : X → Type 0) (xs : List X) (k : ℕ) (y : X) → Every P xs → P y
    → Every P (slice_set xs k y)
every_set P [] k y all own = tt
every_set P (x ∷ xs) zero y all own = (own, all.1)
every_set P (x ∷ xs) (suc k) y all own = (all.0, every_set P xs k y all.1 own)

module _ {K : Type 0} {order : KeyOrder K} (lawful : IsLawful order) where
  -- a known range starts below the place past its end
  abbrev IsOpen : AnyRange K → Type 0
  IsOpen s = IsKeyRange order s × PLt lawful (lower order s) (upper order s)

  -- the place lies between the start of the range and its end
  abbrev Spans : AnyRange K → Position K → Type 0
  Spans s p = PLe lawful (start_position order s.start) p × PLe lawful p (end_position order s.end)

  spans_own : (side : RangeSide) (s : AnyRange K) → IsOpen s
      → Spans s (place_on order side (bound_on side s))
  spans_own side s h = grind (arith, common_steps, le_refl, reaching_is_before_past)

  -- one that has the place of a bound has that of its clone
  back : (side : RangeSide) (p : Position K) (a b : Bound K) → SameBound order a b
      → places order lawful p (place_on order side b) ≡ Equal
      → places order lawful p (place_on order side a) ≡ Equal
  back side p a b clone e = grind (arith, common_steps)

  -- the range has not the place on the side
  abbrev IsOff : RangeSide → Position K → AnyRange K → Type 0
  IsOff side p s = places order lawful (place_on order side (bound_on side s)) p ≡ Equal → ⊥

  -- what lies apart from a range has none of its places
  off_apart : (side : RangeSide) (s x : AnyRange K) (p : Position K) → IsOpen s
      → IsKeyRange order x
      → PLe lawful (upper order s) (lower order x) ⊎ PLe lawful (upper order x) (lower order s)
      → Spans x p → IsOff side p s
  off_apart side s x p whole known (inl le) within = λ e.
      lt_not_le lawful _ _ (le_lt_trans lawful _ _ _ (spans_own side s whole).1
      (lt_le_trans lawful _ _ _ ((before_is order lawful s.end x.start whole.0.1 known.0).1 le)
      within.0)) (eq_ge lawful _ _ e)
  off_apart side s x p whole known (inr le) within = λ e.
      lt_not_le lawful _ _ (lt_le_trans lawful _ _ _ (le_lt_trans lawful _ _ _ within.1
      ((before_is order lawful x.end s.start known.1 whole.0.0).1 le)) (spans_own side s whole).0)
      (eq_le lawful _ _ e)

  module _ {V : Type 0} {same : V → V → Bool} (equal : IsEquivalence same) where
    off_kept : (side : RangeSide) (a b : Bound K) → SameBound order a b
        → (xs : List (Item (AnyRange K) V))
        → Every (λ i. IsOff side (place_on order side a) i.key) xs → IsAsIn order xs side b
    off_kept side a b clone xs all = grind (arith, common_steps, every_weaker, back)

    module _ (items : List (Item (AnyRange K) V)) (known : Known order lawful same equal items)
        (chain : Chained order lawful same equal items) where
      each_open : Every (λ i. IsOpen i.key) items
      each_open =
          every_both _ _ items known (chained_items_have_places order lawful same equal items chain)

      -- a range that no item meets
      pub gap_is_kept : (gap : AnyRange K) → IsOpen gap
          → Every (λ i. PLe lawful (upper order i.key) (lower order gap)
          ⊎ PLe lawful (upper order gap) (lower order i.key)) items → IsKeptIn order items gap
      gap_is_kept gap whole free = λ side b clone.
          off_kept side (bound_on side gap) b clone items (every_with _ _ _ items each_open free
          (λ i f apart. off_apart side i.key gap _ f whole.0 apart (spans_own side gap whole)))

      -- an item of the list
      module _ (done rest : List (Item (AnyRange K) V)) (x : Item (AnyRange K) V)
          (list : items ≡ done ++ x ∷ rest) where
        parts : Every (λ i. IsOpen i.key) (done ++ x ∷ rest)
        parts = rw list at each_open

        own : IsOpen x.key
        own = (every_right _ done (x ∷ rest) parts).0

        -- a bound within its range, which is its own where it has the same place
        pub within_is_kept : (side : RangeSide) (a b : Bound K) → SameBound order a b
            → Spans x.key (place_on order side a)
            → (places order lawful (place_on order side (bound_on side x.key))
            (place_on order side a) ≡ Equal → a ≡ bound_on side x.key) → IsAsIn order items side b
        within_is_kept side a b clone within is_own =
            let line = line_of order lawful same equal in
            let whole = rw list at chain in
            let before = chain_before line done x rest whole in
            let after = follows_above line x rest (chain_right line done (x ∷ rest) whole).1 in
            rw list (every_append _ done (x ∷ rest) (off_kept side a b clone done
            (every_with _ _ _ done before (every_left _ done (x ∷ rest) parts)
            (λ i h f. off_apart side i.key x.key _ f own.0 (inl h.0) within))) (
              λ e. subst (λ y. SameBound order y b) (is_own (back side _ a b clone e)) clone,
              off_kept side a b clone rest (every_with _ _ _ rest after
                  (every_right _ done (x ∷ rest) parts).1
                  (λ i h f. off_apart side i.key x.key _ f own.0 (inr h) within)),
            ))

        pub own_is_kept : IsKeptIn order items x.key
        own_is_kept = λ side b clone.
            within_is_kept side (bound_on side x.key) b clone (spans_own side x.key own) (λ e. refl)

        -- what it has in common with a range
        module _ (r : AnyRange K) (known_r : IsKeyRange order r)
            (starts : PLt lawful (lower order x.key) (upper order r))
            (ends : PLt lawful (lower order r) (upper order x.key)) where
          common_start_by : (b : Bound K) (o : Ordering)
              → places order lawful (start_position order x.key.start)
              (start_position order r.start) ≡ o
              → SameBound order (if is_lt o then r.start else x.key.start) b
              → IsStartAsIn order items b
          common_start_by b Less e h = within_is_kept StartSide r.start b h (grind (arith, common_steps, lt_le, reaching_is_before_past, own)) (λ eq. absurd (cc))
          common_start_by b Equal e h = own_is_kept StartSide b h
          common_start_by b Greater e h = own_is_kept StartSide b h

          common_end_by : (b : Bound K) (o : Ordering)
              → places order lawful (end_position order x.key.end) (end_position order r.end) ≡ o
              → SameBound order (if is_gt o then r.end else x.key.end) b → IsEndAsIn order items b
          common_end_by b Less e h = own_is_kept EndSide b h
          common_end_by b Equal e h = own_is_kept EndSide b h
          common_end_by b Greater e h = within_is_kept EndSide r.end b h (grind (arith, common_steps, reaching_is_before_past, own, gt_le, places, position_total)) (λ eq. absurd (cc))

          pub common_is_kept : (side : RangeSide) (b : Bound K)
              → SameBound order (bound_on side (common order x.key r)) b → IsAsIn order items side b
          common_is_kept StartSide b h = common_start_by b _ refl h
          common_is_kept EndSide b h = common_end_by b _ refl h

        -- an end just before the start of a range that it reaches from before
        pub cut_end_is_kept : (r : AnyRange K) → IsKeyRange order r
            → PLt lawful (lower order x.key) (lower order r)
            → PLt lawful (lower order r) (upper order x.key) → (b : Bound K)
            → SameBound order (flipped_bound r.start) b → IsEndAsIn order items b
        cut_end_is_kept r known_r starts ends b clone =
            let a = flipped_bound r.start in
            let known_a = known_turned order lawful r.start known_r.0 in
            let at = cut_end order lawful x.key.start r.start a own.0.0 starts
            (same_turned order lawful r.start) in
            let high = lt_le_trans lawful _ _ _ ((before_is order lawful a r.start known_a
            known_r.0).1 (eq_le lawful _ _ at)) ((reaching_is_before_past order lawful r.start
            x.key.end known_r.0 own.0.1).1 ends) in
            within_is_kept EndSide a b clone (grind (arith, common_steps, reaching_is_before_past, own, lt_le_trans, eq_ge, lt_le)) (λ e. absurd (lt_not_le lawful _ _ high (eq_le lawful _ _ e)))

        -- a start just after the end of a range out of which it reaches
        pub cut_start_is_kept : (r : AnyRange K) → IsKeyRange order r
            → PLt lawful (lower order x.key) (upper order r)
            → PLt lawful (upper order r) (upper order x.key) → (b : Bound K)
            → SameBound order (flipped_bound r.end) b → IsStartAsIn order items b
        cut_start_is_kept r known_r starts ends b clone =
            let a = flipped_bound r.end in
            let known_a = known_turned order lawful r.end known_r.1 in
            let at = cut_start order lawful x.key.end r.end a own.0.1 ends
            (same_turned order lawful r.end) in
            let low = lt_le_trans lawful _ _ _ starts (eq_ge lawful _ _ at) in
            within_is_kept StartSide a b clone (grind (arith, common_steps, lt_le, reaching_is_before_past, own, le_lt_trans, eq_le)) (λ e. absurd (lt_not_le lawful _ _ low (eq_ge lawful _ _ e)))

      own_by : (done rest : List (Item (AnyRange K) V)) → items ≡ done ++ rest
          → Every (λ j. IsSpelledAsIn order items j.key) rest
      own_by done [] list = tt
      own_by done (x ∷ xs) list = (
        (
          own_is_kept done xs x list StartSide x.key.start (same_itself order lawful x.key.start),
          own_is_kept done xs x list EndSide x.key.end (same_itself order lawful x.key.end),
        ),
        own_by (done ++ x ∷ []) xs (list ∙ sym (append_assoc done (x ∷ []) xs)),
      )

      -- the list itself keeps its bounds
      pub own_spelling : KeepsSpelling order items items
      own_spelling = own_by [] items refl

  -- a part whose clones are spelled as in a list, put after others that are
  pub put_keeps_spelling : {V : Type 0} (same : V → V → Bool) (items : List (Item (AnyRange K) V))
      {part : AnyRange K} {is_clone : K → K → Type 0}
      (clones : (a b : Bound K) → IsBoundClone is_clone a b → SameBound order a b)
      → IsKeptIn order items part → (old new : List (Item (AnyRange K) V)) (answer : Option V)
      → KeepsSpelling order items old → IsPut order same is_clone old new part answer
      → KeepsSpelling order items new
  put_keeps_spelling same items clones own old new None kept put = rw put kept
  put_keeps_spelling same items clones own old new (Some v) kept (inl put) =
      rw put.list (every_append _ old _ kept (
        (
          own StartSide put.start (clones _ put.start put.start_clone),
          own EndSide put.end (clones _ put.end put.end_clone),
        ),
        tt,
      ))
  put_keeps_spelling {V = V} same items {part = part} clones own old new (Some v) kept (inr put) =
      let d : Item (AnyRange K) V = record { key = part; value = v } in
      let last = get_or old (length old - 1) d in
      let was = every_at _ old (length old - 1) d kept (omega (arith, put.joins.0)) in
      rw (put.list d) (every_set _ old (length old - 1) (with_end last put.end) kept
      (was.0, own EndSide put.end (clones _ put.end put.end_clone)))
