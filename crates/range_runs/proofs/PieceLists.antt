-- The pieces that are read off from the items that meet a range are its pieces.
use Rattle.range_runs.proofs.Common.{arith, common_steps, ◌≡◌, refl, sym, ◌∙◌, List, [], ◌∷◌, ◌++◌, ◌⊎◌, inl, inr, Option, Some, None, Bool, true, false, map, if◌then◌else◌, append_assoc, append-nil, IsEquivalence, tied_itself, Every, Equal, Bound, Unbounded, KeyOrder, IsLawful, start_position, end_position, position_cmp, position_total, Position, common, flipped, starts_past_end, past, lower, upper, Le, Lt, Any, IsEmptyRange, IsBoundOfKey, IsKeyRange, AnyRange, common_known, later_is, earlier_is, any_right, every_weaker, every_append, every_left, every_right, reaching_is_before_past, flipped_bound_is_past, flipped_back, flipped_known, unbounded_start, unbounded_end, Item, line_of, Overlap, free_piece, bound_piece, free_between, pieces_from, pieces_of, IsFreePart, ArePieces, AreOverlapping, IsStored, le_refl, lt_le, eq_le, eq_ge, le_trans, cases, not_le, not_lt, lt_not_le, lt_le_trans, PLe, PLt}
use Rattle.range_runs.proofs.Chains.{chain_above, chain_right, follows_above}
use Rattle.range_runs.proofs.Forms.{Chained, before_is, stored_chain, nonempty_good}
use Rattle.range_runs.proofs.RangePieces.{Rises, IsFull, IsRight, IsInside, AreCut, all_full, any_over, any_with, common_is, common_place_is_not_clear, common_within, cut_all, every_with, free_apart, free_inside}
use Rattle.range_runs.proofs.Spelling.{IsKeptIn, gap_is_kept, common_is_kept}
use Rattle.range_runs.proofs.Tests.{not_both}

-- the range starts no later than another and ends past where that starts
abbrev pub IsOver : {K : Type 0} → KeyOrder K → AnyRange K → AnyRange K → Type 0
IsOver order r part = Le (position_cmp order.cmp) (lower order r) (lower order part) × Lt
    (position_cmp order.cmp) (lower order part) (upper order r)

module _ {K : Type 0} {order : KeyOrder K} (lawful : IsLawful order) {V : Type 0}
    {same : V → V → Bool} (equal : IsEquivalence same) (items : List (Item (AnyRange K) V))
    (r : AnyRange K) (stored : IsStored order same items) (known : IsKeyRange order r)
    (nonempty : IsEmptyRange order r → ⊥) where
  abbrev Le' : Position K → Position K → Type 0
  Le' p q = PLe lawful p q

  abbrev Lt' : Position K → Position K → Type 0
  Lt' p q = PLt lawful p q

  abbrev Low : AnyRange K → Position K
  Low = lower order

  abbrev High : AnyRange K → Position K
  High = upper order

  abbrev IsGood : Item (AnyRange K) (Option V) → Type 0
  IsGood p = IsInside order lawful items r p.key × IsRight order lawful items r p.key p.value ×
      IsKeptIn order items p.key

  chained : Chained order lawful same equal items
  chained = stored_chain order lawful same equal items stored

  full : Every (IsFull order lawful items r) items
  full = all_full order lawful same equal r items stored.known chained

  -- all pieces of the range from two places on
  record IsCut (from to : Position K) (pieces : List (Item (AnyRange K) (Option V))) : Type 0 where
    each : Every (λ p. Le' from (Low p.key) × Le' to (Low p.key) × IsGood p) pieces
    rising : Rises order lawful pieces
    covered : (m : Position K) → Le' from m → Le' to m → Lt' m (High r)
        → Any (λ p. Le' (Low p.key) m × Lt' m (High p.key)) pieces

  -- one piece more
  add : {from to a b : Position K} {rest : List (Item (AnyRange K) (Option V))}
      (p : Item (AnyRange K) (Option V)) → Le' from (Low p.key) → Le' to (Low p.key) → IsGood p
      → Le' (High p.key) b → ((m : Position K) → Le' from m → Le' to m → Lt' m (High r)
      → (Le' (Low p.key) m × Lt' m (High p.key)) ⊎ (Le' a m × Le' b m)) → IsCut a b rest
      → IsCut from to (p ∷ rest)
  add {b = b} {rest = rest} p after behind good ends split was =
      let on : Le' (Low p.key) b = le_trans lawful _ _ _ (lt_le lawful _ _ good.0.2) ends in
      record {
        each = (
          (after, behind, good),
          every_weaker _ _ rest (λ q h. (grind (arith, common_steps, le_trans))) was.each,
        );
        rising = (every_weaker _ _ rest (λ q h. le_trans lawful _ _ _ ends h.1) was.each, was.rising);
        covered = λ m h k upto. (grind (arith, common_steps));
      }

  -- the items before a place end at most there, and an item ends at it and the others start after
  -- it, or the range starts at it
  record IsReady (done tail : List (Item (AnyRange K) V)) (from : Position K) : Type 0 where
    list : items ≡ done ++ tail
    at_least : Le' (Low r) from
    below : Every (λ j. Le' (High j.key) from) done
    edge : Le' from (Low r) ⊎ (Any (λ j. Le' from (High j.key) × Le' (High j.key) from) items
        × Every (λ i. Le' from (Low i.key)) tail)

  -- the next piece starts at the bound, or none is left
  abbrev Opens : Option (Bound K) → Position K → Type 0
  Opens None from = Le' (High r) from
  Opens (Some b) from = IsBoundOfKey order b
      × (position_cmp order.cmp from (start_position order b) ≡ Equal)

  opens_after : (e : Bound K) (b : Option (Bound K)) → flipped e ≡ b → IsBoundOfKey order e
      → Opens b (past order (end_position order e))
  opens_after e option turns known_e = grind (arith, common_steps, flipped_known, flipped_bound_is_past, unbounded_end)

  -- the gap from one place to another ends at the bound, or there is none
  abbrev Closes : Option (Bound K) → Position K → Position K → Type 0
  Closes None from to = Le' to from
  Closes (Some b) from to = IsBoundOfKey order b
      × (position_cmp order.cmp (past order (end_position order b)) to ≡ Equal)

  closes_before : (from : Position K) (s : Bound K) (b : Option (Bound K)) → flipped s ≡ b
      → IsBoundOfKey order s → Le' (Low r) from → Closes b from (start_position order s)
  closes_before from s (Some b) turns known_s le = grind (arith, common_steps, flipped_known, flipped_bound_is_past, flipped_back)
  closes_before from Unbounded None turns known_s le =
      le_trans lawful _ _ _ (unbounded_start order lawful r.start known.0) le
  closes_before from s None turns known_s le = absurd (cc)

  -- the gap from a place on, and the pieces after it
  module _ {done tail : List (Item (AnyRange K) V)} {from to : Position K}
      {rest : List (Item (AnyRange K) (Option V))} (ready : IsReady done tail from)
      (within : Le' to (High r)) (above : Every (λ i. Le' to (Low i.key)) tail)
      (bounded : Le' (High r) to ⊎ Any (λ i. Le' to (Low i.key) × Le' (Low i.key) to) items)
      (was : IsCut from to rest) where
    no_gap : Le' to from → IsCut from from rest
    no_gap le = grind (arith, common_steps, every_weaker, le_trans)

    add_gap : (gap : AnyRange K) → IsKeyRange order gap
        → position_cmp order.cmp from (Low gap) ≡ Equal
        → position_cmp order.cmp (High gap) to ≡ Equal → Lt' (Low gap) (High gap)
        → IsCut from from (free_piece gap ∷ rest)
    add_gap gap is_known begins stops room =
        let after = eq_le lawful from (Low gap) begins in
        let upto = eq_ge lawful from (Low gap) begins in
        let over = eq_ge lawful (High gap) to stops in
        let ends = eq_le lawful (High gap) to stops in
        let free : Every (λ i. Le' (High i.key) (Low gap) ⊎ Le' (High gap) (Low i.key)) items =
        rw ready.list (every_append _ done tail
        (every_weaker _ _ done (λ j le. inl (le_trans lawful _ _ _ le after)) ready.below)
        (every_weaker _ _ tail (λ i le. inr (le_trans lawful _ _ _ ends le)) above)) in
        add (free_piece gap) after after (
          (
            is_known,
            le_trans lawful _ _ _ ready.at_least after,
            room,
            le_trans lawful _ _ _ ends within,
          ),
          record {
            free = free;
            left = elim ready.edge [
              | inl le ↦ inl (le_trans lawful _ _ _ upto le)
              | inr some_item ↦ inr (any_over _ _ items (λ j h. (grind (arith, common_steps, le_trans))) some_item.0)
            ];
            right = elim bounded [
              | inl le ↦ inl (le_trans lawful _ _ _ le over)
              | inr some_item ↦ inr (any_over _ _ items (λ i h.
                  (le_trans lawful _ _ _ ends h.0, le_trans lawful _ _ _ h.1 over)) some_item)
            ];
          },
          gap_is_kept lawful equal items stored.known chained gap (is_known, room) free,
        ) ends (λ m h k before. (grind (arith, common_steps, cases, le_trans, lt_le_trans))) was

    gap_by : (a b : Bound K) (t : Bool) → starts_past_end order a b ≡ t → Opens (Some a) from
        → Closes (Some b) from to → IsCut from from
        (map free_piece (if t then [] else record { start = a; end = b } ∷ []) ++ rest)
    gap_by a b true e opens closes =
        let over = not_lt lawful _ _ (λ l. not_both ((reaching_is_before_past order lawful a b
        opens.0 closes.0).1 l) e) in
        no_gap (le_trans lawful _ _ _ (eq_ge lawful _ _ closes.1)
        (le_trans lawful _ _ _ over (eq_ge lawful _ _ opens.1)))
    gap_by a b false e opens closes = add_gap _ (opens.0, closes.0) opens.1 closes.1
        ((reaching_is_before_past order lawful a b opens.0 closes.0).0 e)

    with_gap : (start end : Option (Bound K)) → Opens start from → Closes end from to
        → IsCut from from (free_between order start end ++ rest)
    with_gap option end opens closes = grind (arith, common_steps, gap_by, no_gap, le_trans)

  -- an item that the range meets, after those so far
  module _ {done rest : List (Item (AnyRange K) V)} {x : Item (AnyRange K) V} {from : Position K}
      (ready : IsReady done (x ∷ rest) from) (meets : Overlap order x.key r) where
    good : IsFull order lawful items r x
    good = (every_right _ done _ (rw ready.list at full)).0

    chain_here : Chained order lawful same equal (x ∷ rest)
    chain_here = chain_right (line_of order lawful same equal) done _ (rw ready.list at chained)

    among : (P : Item (AnyRange K) V → Type 0) → P x → Any P items
    among P h = rw ready.list (any_right P done _ (inl h))

    starts : Lt' (Low x.key) (High r)
    starts = not_le lawful _ _ (λ le. meets.1 ((before_is order lawful r.end x.key.start known.1
        good.0.0).1 le))

    ends : Lt' (Low r) (High x.key)
    ends = not_le lawful _ _ (λ le. meets.0 ((before_is order lawful x.key.end r.start good.0.1
        known.0).1 le))

    abbrev Part : AnyRange K
    Part = common order x.key r

    part_within : Le' (Low r) (Low Part) × Le' (Low x.key) (Low Part) × Le' (High Part) (High r)
        × Le' (High Part) (High x.key)
    part_within = common_within order lawful r x.key Part known good.0
        (common_known order lawful x.key r good.0 known) (common_is order lawful r x.key)

    -- what lies in both lies in the part
    part_starts : (m : Position K) → Le' (Low r) m → Le' (Low x.key) m → Le' (Low Part) m
    part_starts m h k =
        later_is order lawful x.key.start r.start (λ b. Le' (start_position order b) m) k h

    part_ends : (m : Position K) → Lt' m (High r) → Lt' m (High x.key) → Lt' m (High Part)
    part_ends m h k =
        earlier_is order lawful x.key.end r.end (λ b. Lt' m (past order (end_position order b))) k h

    part_good : IsGood (bound_piece order r x)
    part_good = (
      (
        common_known order lawful x.key r good.0 known,
        part_within.0,
        later_is order lawful x.key.start r.start (λ b. Lt' (start_position order b) (High Part))
            (part_ends (Low x.key) starts good.1)
            (part_ends (Low r) ((nonempty_good order lawful r known).0 nonempty) ends),
        part_within.2,
      ),
      among _ (common_is order lawful r x.key, refl),
      common_is_kept lawful equal items stored.known chained done rest x ready.list r known starts ends,
    )

    part_after : Le' from (Low Part)
    part_after = grind (arith, common_steps, le_trans, part_within)

    -- the item with the gap before it
    with_item : (start : Option (Bound K)) {more : List (Item (AnyRange K) (Option V))}
        → Opens start from → IsCut (High x.key) (High x.key) more → IsCut from from
        (free_between order start (flipped x.key.start) ++ bound_piece order r x ∷ more)
    with_item start opens was =
        let own = le_refl lawful (Low x.key) in
        with_gap ready (lt_le lawful _ _ starts)
        (chain_above (line_of order lawful same equal) (Low x.key) x rest chain_here own)
        (inr (among _ (own, own))) (add (bound_piece order r x) part_after part_within.1 part_good
        part_within.3 (λ m h k before. elim (cases lawful m (High x.key)) [
          | inl l ↦
              inl (part_starts m (le_trans lawful _ _ _ ready.at_least h) k, part_ends m before l)
          | inr le ↦ inr (le, le)
        ]) was) start (flipped x.key.start) opens
        (closes_before _ x.key.start (flipped x.key.start) refl good.0.0 ready.at_least)

    ready_after : IsReady (done ++ x ∷ []) rest (High x.key)
    ready_after =
        let own = le_refl lawful (High x.key) in
        let on = le_trans lawful _ _ _ part_after (le_trans lawful _ _ _
        (lt_le lawful _ _ part_good.0.2) part_within.3) in
        record {
          list = ready.list ∙ sym (append_assoc done (x ∷ []) rest);
          at_least = lt_le lawful _ _ ends;
          below = every_append _ done (x ∷ []) (every_weaker _ _ done
              (λ j le. le_trans lawful _ _ _ le on) ready.below) (own, tt);
          edge = inr (
            among _ (own, own),
            follows_above (line_of order lawful same equal) x rest chain_here.1,
          );
        }

  module _ (met : List (Item (AnyRange K) V)) (are : AreOverlapping order items r met) where
    abbrev Pieces : List (Item (AnyRange K) (Option V))
    Pieces = pieces_of order r met

    parts : Every (IsFull order lawful items r) (are.before ++ (met ++ are.after))
    parts = rw are.split at full

    pieces_cut : (left : List (Item (AnyRange K) V)) {done : List (Item (AnyRange K) V)}
        {from : Position K} (start : Option (Bound K)) → Every (λ i. Overlap order i.key r) left
        → IsReady done (left ++ are.after) from → Opens start from
        → IsCut from from (pieces_from order r start (Some r.end) left)
    pieces_cut [] start meet ready opens =
        let own = le_refl lawful (High r) in
        rw append-nil at (with_gap {rest = []} ready own (every_with _ _ _ are.after are.above
        (every_right _ met are.after (every_right _ are.before (met ++ are.after) parts))
        (λ i l k. (before_is order lawful r.end i.key.start known.1 k.0.0).0 l)) (inl own) (record {
          each = tt;
          rising = tt;
          covered = λ m h k upto. absurd (lt_not_le lawful _ _ upto k);
        }) start (Some r.end) opens
        (known.1, tied_itself (position_total order.cmp lawful.total) (High r)))
    pieces_cut (x ∷ left) start meet ready opens =
        with_item ready meet.0 start opens (pieces_cut left _ meet.1 (ready_after ready meet.0)
        (opens_after x.key.end (flipped x.key.end) refl (good ready meet.0).0.1))

    cut : IsCut (Low r) (Low r) Pieces
    cut =
        let own = le_refl lawful (Low r) in
        pieces_cut met (Some r.start) are.meet (record {
          list = are.split;
          at_least = own;
          below = every_with _ _ _ are.before are.below (every_left _ are.before _ parts)
              (λ i l k. (before_is order lawful i.key.end r.start k.0.1 known.0).0 l);
          edge = inl own;
        }) (known.0, tied_itself (position_total order.cmp lawful.total) (Low r))

    pub pieces_are_cut : AreCut order lawful items r Pieces
    pieces_are_cut = record {
      inside = every_weaker _ _ Pieces (λ p h. h.2.0) cut.each;
      right = every_weaker _ _ Pieces (λ p h. h.2.1) cut.each;
      rising = cut.rising;
      covered = λ m h. cut.covered m h h;
    }

    -- the list has all pieces of the range
    pub pieces_are : ArePieces order items r Pieces
    pieces_are = cut_all order lawful items r known same equal full chained Pieces pieces_are_cut

    -- and each is written as the items are
    pub pieces_are_kept : Every (λ p. IsKeptIn order items p.key) Pieces
    pieces_are_kept = every_weaker _ _ Pieces (λ p h. h.2.2) cut.each

    module _ (part : AnyRange K) (free : IsFreePart order items r part) where
      none_by : (key : AnyRange K) (v : Option V) → IsKeyRange order key → IsOver order key part
          → IsRight order lawful items r key v → v ≡ None
      none_by key None known_key over right = refl
      none_by key (Some v) known_key over right = absurd (common_place_is_not_clear order lawful
          items r known full same equal (Low part) key part v known_key right over.0 over.1
          (every_weaker _ _ items (λ i b. b.1) (free_apart order lawful items r known full part
          free)) (le_refl lawful _) (free_inside order lawful items r known full part free).2)

      -- where a part of the range is free, a free piece is over it
      pub free_shows : Any (λ p. IsOver order p.key part × (p.value ≡ None)) Pieces
      free_shows =
          let inside = free_inside order lawful items r known full part free in
          any_with _ _ _ Pieces (cut.covered (Low part) inside.1 inside.1
          (lt_le_trans lawful _ _ _ inside.2 inside.3)) cut.each
          (λ p over h. (over, none_by p.key p.value h.2.0.0 over h.2.1))
