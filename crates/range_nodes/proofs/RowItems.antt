-- Rows in segments of as many each.
use Rattle.std.proofs.Common.{◌≡◌, ℕ, zero, suc, ◌+◌, ◌-◌, ◌*◌, ◌/◌, ◌%◌, ◌<◌, List, [], ◌∷◌, ◌++◌, length, replicate, refl, sym, ap, ◌∙◌, inl, inr, arith, length-append, append-nil, append_assoc}
use Rattle.std.proofs.Math.ListN.{set, get_or}
use Rattle.std.proofs.lemmas.Bool.{cases_lt}
use Rattle.std.proofs.lemmas.List.{get_or_append_left, get_or-append_right, set-append_left, set-append_right, get_or_at, get_or_default, get_or_past, get_or-replicate}
use Rattle.range_nodes.specs.declared.segment.TheConstants.{ROWS}
use Rattle.range_nodes.specs.Rows.{row_of, joined, AreSegments}

module _ {A : Type 0} where
  after : (xs : List A) (rest : List (List A)) → AreSegments (xs ∷ rest) → AreSegments rest
  after xs rest all n less = all (suc n) (omega (arith, less))

  pub length-joined : (segments : List (List A)) → AreSegments segments
      → length (joined segments) ≡ ROWS * length segments
  unfolding joined
  length-joined [] all = refl
  length-joined (xs ∷ rest) all = omega (
    arith,
    length-append xs (joined rest),
    all 0 (omega arith),
    length-joined rest (after xs rest all),
  )

  -- an element of a segment
  joined_read : (segments : List (List A)) → AreSegments segments → (q r : ℕ) → r < ROWS
      → (d : A) → get_or (joined segments) (ROWS * q + r) d ≡ get_or (get_or segments q []) r d
  unfolding joined
  joined_read [] all q r less d = refl
  joined_read (xs ∷ rest) all zero r less d =
      let index : ROWS * 0 + r ≡ r = omega arith in
      ap (λ k. get_or (xs ++ joined rest) k d) index
      ∙ get_or_append_left xs (joined rest) d r (omega (arith, all 0 (omega arith), less))
  joined_read (xs ∷ rest) all (suc q) r less d =
      let index : ROWS * suc q + r - ROWS ≡ ROWS * q + r = omega arith in
      get_or-append_right xs (joined rest) ROWS (ROWS * suc q + r) d (all 0 (omega arith))
      (omega arith)
      ∙ ap (λ k. get_or (joined rest) k d) index
      ∙ joined_read rest (after xs rest all) q r less d

  -- an element of a segment was written
  joined_set : (segments : List (List A)) → AreSegments segments → (q r : ℕ)
      → q < length segments → r < ROWS → (x : A)
      → joined (set segments q (set (get_or segments q []) r x))
      ≡ set (joined segments) (ROWS * q + r) x
  unfolding joined
  joined_set [] all q r there less x = absurd (omega (arith, there))
  joined_set (xs ∷ rest) all zero r there less x =
      let index : r ≡ ROWS * 0 + r = omega arith in
      sym (set-append_left xs (joined rest) r x (omega (arith, all 0 (omega arith), less)))
      ∙ ap (λ k. set (xs ++ joined rest) k x) index
  joined_set (xs ∷ rest) all (suc q) r there less x =
      let index : ROWS * q + r ≡ ROWS * suc q + r - ROWS = omega arith in
      ap (λ l. xs ++ l) (joined_set rest (after xs rest all) q r (omega (arith, there)) less x)
      ∙ ap (λ k. xs ++ set (joined rest) k x) index
      ∙ sym (set-append_right xs (joined rest) ROWS (ROWS * suc q + r) x (all 0 (omega arith))
      (omega arith))

  joined_more : (segments : List (List A)) (xs : List A)
      → joined (segments ++ xs ∷ []) ≡ joined segments ++ xs
  unfolding joined
  joined_more [] xs = append-nil xs
  joined_more (ys ∷ rest) xs =
      ap (λ l. ys ++ l) (joined_more rest xs) ∙ sym (append_assoc ys (joined rest) xs)

-- the segments hold these rows, one of which has this number
module _ {T : Type 0} (segments : List (List (List T))) (all : AreSegments segments)
    (rows : List (List T)) (is : joined segments ≡ rows) (n : ℕ) (less : n < length rows) where
  pub segment_within : n / ROWS < length segments
  segment_within = omega (arith, length-joined segments all, ap length is, less)

  -- its segment
  module _ (segment : List (List T)) (found : segment ≡ get_or segments (n / ROWS) segment) where
    there : segment ≡ get_or segments (n / ROWS) []
    there = found ∙ get_or_default segments (n / ROWS) segment [] segment_within

    number : ROWS * (n / ROWS) + n % ROWS ≡ n
    number = omega arith

    pub row_read : row_of segment (n % ROWS) ≡ row_of rows n
    row_read =
        ap (λ s. row_of s (n % ROWS)) there
        ∙ sym (joined_read segments all (n / ROWS) (n % ROWS) (omega arith) [])
        ∙ ap (λ k. row_of (joined segments) k) number
        ∙ ap (λ l. row_of l n) is

    -- the row was written
    pub row_written : (new : List (List T)) (items : List T) → new ≡ set segment (n % ROWS) items
        → joined (set segments (n / ROWS) new) ≡ set rows n items
    row_written new items written =
        ap (λ s. joined (set segments (n / ROWS) s))
        (written ∙ ap (λ s. set s (n % ROWS) items) there)
        ∙ joined_set segments all (n / ROWS) (n % ROWS) segment_within (omega arith) items
        ∙ ap (λ k. set (joined segments) k items) number
        ∙ ap (λ l. set l n items) is

-- rows without an item were added
module _ {T : Type 0} (segments : List (List (List T))) (all : AreSegments segments)
    (fresh : List (List T)) (is : fresh ≡ replicate ROWS []) where
  abbrev bare : List (List T)
  bare = replicate ROWS []

  bare_at : (i : ℕ) → row_of bare i ≡ []
  bare_at i =
      elim (cases_lt i ROWS) [
        | inl less ↦ get_or-replicate ROWS i [] [] less
        | inr past ↦ get_or_past bare i [] past
      ]

  pub more_segments : AreSegments (segments ++ fresh ∷ [])
  more_segments m less =
      elim (cases_lt m (length segments)) [
        | inl low ↦ rw (get_or_append_left segments (fresh ∷ []) [] m low) (all m low)
        | inr past ↦
            let last : length segments ≡ m =
            omega (arith, less, past, length-append segments (fresh ∷ [])) in
            ap length (get_or_at segments fresh [] [] m last) ∙ ap length is
      ]

  pub more_rows : (k : ℕ) → row_of (joined (segments ++ fresh ∷ [])) k ≡ row_of (joined segments) k
  more_rows k =
      ap (λ l. row_of l k) (joined_more segments fresh)
      ∙ elim (cases_lt k (length (joined segments))) [
        | inl low ↦ get_or_append_left (joined segments) fresh [] k low
        | inr past ↦
            get_or-append_right (joined segments) fresh (length (joined segments)) k [] refl past
            ∙ ap (λ l. row_of l (k - length (joined segments))) is
            ∙ bare_at (k - length (joined segments))
            ∙ sym (get_or_past (joined segments) k [] past)
      ]

module _ {A : Type 0} where
  abbrev no_segments : List (List A)
  no_segments = []

  pub joined_none : joined no_segments ≡ []
  unfolding joined
  joined_none = refl
