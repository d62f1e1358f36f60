-- Rows of two halves, joined.
use Rattle.std.proofs.Common.{◌≡◌, ℕ, zero, suc, ◌+◌, ◌-◌, ◌≤◌, ◌<◌, max, min, List, [], ◌∷◌, ◌++◌, length, get_or, inl, inr, ap, arith, length-append}
use Rattle.std.proofs.lemmas.Bool.{cases_lt}
use Rattle.std.proofs.lemmas.List.{get_or_append_left, get_or_push}
use Rattle.least_covers.specs.Rows.{Falls, IsJoinedSoFar, IsShared, at}

pub at_place : (row : List ℕ) (i k : ℕ) → min k (length row) - 1 ≡ i → at row k ≡ get_or row i 0
at_place row i k e = ap (λ n. get_or row n 0) e

-- the last is the least
pub at_last : (row : List ℕ) (k : ℕ) → Falls row → 1 ≤ k → 1 ≤ length row
    → at row (length row) ≤ at row k
at_last row k falls some any = elim (cases_lt (length row) k) [
  | inl past ↦
      let e = at_place row (length row - 1) k (omega arith) in
      let f = at_place row (length row - 1) (length row) (omega arith) in omega arith
  | inr inside ↦ falls k (length row) some inside
]

module _ (room : ℕ) (low high : List ℕ) where
  module _ (shares row : List ℕ) (share added : ℕ) where
    joined_each : IsJoinedSoFar room low high shares row
        → IsShared room low high (length row + 1) share added
        → (k : ℕ) → 1 ≤ k → k ≤ length (row ++ added ∷ [])
        → IsShared room low high k (get_or (shares ++ share ∷ []) (k - 1) 0)
        (get_or (row ++ added ∷ []) (k - 1) 0)
    joined_each so new k some last =
        let more = length-append row (added ∷ []) in
        let count = so.count in
        elim (cases_lt (length row) k) [
          | inl past ↦
              let e : k ≡ length row + 1 = omega arith in
              let s = get_or_push shares share 0 (k - 1) (omega arith) in
              let t = get_or_push row added 0 (k - 1) (omega arith) in
              rw (s, t) (rw e new)
          | inr inside ↦
              let s = get_or_append_left shares (share ∷ []) 0 (k - 1) (omega arith) in
              let t = get_or_append_left row (added ∷ []) 0 (k - 1) (omega arith) in
              rw (s, t) (so.each k some inside)
        ]

    joined_least : IsJoinedSoFar room low high shares row
        → ((i : ℕ) → 1 ≤ i → i < length row + 1 → added ≤ at low i + at high (length row + 1 - i))
        → (k i : ℕ) → k ≤ length (row ++ added ∷ []) → 1 ≤ i → i < k
        → get_or (row ++ added ∷ []) (k - 1) 0 ≤ at low i + at high (k - i)
    joined_least so new k i last some less =
        let more = length-append row (added ∷ []) in
        elim (cases_lt (length row) k) [
          | inl past ↦
              let e : k ≡ length row + 1 = omega arith in
              let t = get_or_push row added 0 (k - 1) (omega arith) in
              rw t (rw e (new i some (omega arith)))
          | inr inside ↦
              let t = get_or_append_left row (added ∷ []) 0 (k - 1) (omega arith) in
              rw t (so.least k i inside some less)
        ]

    pub joined_more : IsJoinedSoFar room low high shares row
        → IsShared room low high (length row + 1) share added
        → ((i : ℕ) → 1 ≤ i → i < length row + 1 → added ≤ at low i + at high (length row + 1 - i))
        → IsJoinedSoFar room low high (shares ++ share ∷ []) (row ++ added ∷ [])
    joined_more so new least =
        let more = length-append row (added ∷ []) in
        let others = length-append shares (share ∷ []) in
        let count = so.count in
        record {
          count = omega arith;
          each = joined_each so new;
          least = joined_least so least;
        }

  module _ (most : ℕ) (shares row : List ℕ) (so : IsJoinedSoFar room low high shares row)
      (some : 1 ≤ most) (lows : 1 ≤ length low) (highs : 1 ≤ length high)
      (whole : length row ≡ min most (length low + length high)) (low_falls : Falls low)
      (high_falls : Falls high) (fits : at low 1 + at high 1 ≤ room) where
    -- no way to share k prefixes adds fewer numbers
    pub all_least : (k i : ℕ) → k ≤ most → 1 ≤ i → i < k → at row k ≤ at low i + at high (k - i)
    all_least k i last first less = elim (cases_lt (length row) k) [
      | inl past ↦
          let e = at_place row (length row - 1) k (omega arith) in
          let f = so.least (length row) (length low) (omega arith) lows (omega arith) in
          let r : length row - length low ≡ length high = omega arith in
          let g : get_or row (length row - 1) 0 ≤ at low (length low) + at high (length high) = rw r at f in
          let l = at_last low i low_falls first lows in
          let h = at_last high (k - i) high_falls (omega arith) highs in omega arith
      | inr inside ↦
          let e = at_place row (k - 1) k (omega arith) in
          let f = so.least k i inside first less in omega arith
    ]

    all_within : (k : ℕ) → 1 ≤ k → k ≤ length row → at row k ≤ room
    all_within k first last =
        let e = at_place row (k - 1) k (omega arith) in
        elim (so.each k first last) [
          | inl own ↦ let is = own.1 in omega arith
          | inr shared ↦
              let s : ℕ = get_or shares (k - 1) 0 in
              let is = shared.2 in
              let less = shared.1 in
              let l = low_falls 1 s (omega arith) shared.0 in
              let h = high_falls 1 (k - s) (omega arith) (omega (arith, less)) in
              omega (arith, is)
        ]

    step : (k : ℕ) → 1 ≤ k → k < length row → at row (suc k) ≤ at row k
    step k first last =
        let e = at_place row (k - 1) k (omega arith) in
        elim (so.each k first (omega arith)) [
          | inl own ↦
              let is = own.1 in
              let w = all_within (suc k) (omega arith) (omega arith) in omega arith
          | inr shared ↦
              let s : ℕ = get_or shares (k - 1) 0 in
              let is = shared.2 in
              let less = shared.1 in
              let one = shared.0 in
              let h = high_falls (k - s) (suc k - s) (omega (arith, less)) (omega arith) in
              let l = all_least (suc k) s (omega arith) one (omega (arith, less)) in
              omega (arith, is)
        ]

    steps : (more k : ℕ) → 1 ≤ k → at row (k + more) ≤ at row k
    steps zero k first = let z : k + 0 ≡ k = omega arith in rw z (omega arith)
    steps (suc more) k first =
        let z : k + suc more ≡ suc (k + more) = omega arith in
        let again = steps more k first in
        elim (cases_lt (k + more) (length row)) [
          | inl inside ↦ let next = step (k + more) (omega arith) inside in rw z (omega arith)
          | inr past ↦
              let e = at_place row (length row - 1) (k + more) (omega arith) in
              let f = at_place row (length row - 1) (suc (k + more)) (omega arith) in
              rw z (omega arith)
        ]

    pub all_falls : Falls row
    all_falls i j first le =
        let z : i + (j - i) ≡ j = omega arith in
        let h = steps (j - i) i first in rw z at h

    pub first_within : at row 1 ≤ room
    first_within = all_within 1 (omega arith) (omega arith)

-- of the shares from a first one to one before a last one, none adds fewer numbers
pub record IsBestSoFar (low high : List ℕ) (prefixes start past first added : ℕ) : Type 0 where
  pub some : 1 ≤ first
  pub rest : first < prefixes
  pub sum : added ≡ at low first + at high (prefixes - first)
  pub least : (i : ℕ) → start ≤ i → i < past → added ≤ at low i + at high (prefixes - i)

module _ (low high : List ℕ) (prefixes start past first added : ℕ)
    (so : IsBestSoFar low high prefixes start past first added) where
  pub best_new : (more : ℕ) → more ≡ at low past + at high (prefixes - past) → more < added
      → 1 ≤ past → past < prefixes → IsBestSoFar low high prefixes start (past + 1) past more
  best_new more is less some rest = record {
    some = some;
    rest = rest;
    sum = is;
    least = λ i from to. elim (cases_lt i past) [
      | inl before ↦ let h = so.least i from before in omega arith
      | inr after ↦ let e : i ≡ past = omega arith in rw e (omega arith)
    ];
  }

  pub best_old : (more : ℕ) → more ≡ at low past + at high (prefixes - past) → added ≤ more
      → IsBestSoFar low high prefixes start (past + 1) first added
  best_old more is less = record {
    some = so.some;
    rest = so.rest;
    sum = so.sum;
    least = λ i from to. elim (cases_lt i past) [
      | inl before ↦ so.least i from before
      | inr after ↦ let e : i ≡ past = omega arith in rw e (omega arith)
    ];
  }

  -- where those before and after would give a half more prefixes than its row has
  pub best_of_all : (end : ℕ) → Falls low → Falls high → 1 ≤ length low → 1 ≤ length high
      → 2 ≤ prefixes → prefixes ≤ length low + length high
      → start ≡ max (prefixes - length high) 1 → end ≡ min (length low) (prefixes - 1)
      → end < past → (i : ℕ) → 1 ≤ i → i < prefixes → added ≤ at low i + at high (prefixes - i)
  best_of_all end low_falls high_falls lows highs two all first_is end_is done i one less =
      elim (cases_lt i start) [
        | inl before ↦
            let e : prefixes - start ≡ length high = omega arith in
            let l = low_falls i start one (omega arith) in
            let h = at_last high (prefixes - i) high_falls (omega arith) highs in
            let b = so.least start (omega arith) (omega arith) in
            let c : added ≤ at low start + at high (length high) = rw e at b in omega arith
        | inr from ↦ elim (cases_lt i past) [
          | inl inside ↦ so.least i from inside
          | inr after ↦
              let b = so.least (length low) (omega arith) (omega arith) in
              let l = at_last low i low_falls one lows in
              let h = high_falls (prefixes - i) (prefixes - length low) (omega arith) (omega arith) in
              omega arith
        ]
      ]
