-- The blocks that trees choose.
use Rattle.std.proofs.Common.{◌≡◌, ℕ, suc, ◌+◌, ◌-◌, ◌*◌, ◌≤◌, ◌<◌, ◌^◌, ◌⊎◌, Bool, true, false, ◌||◌, ◌==◌, nat_lt, min, List, [], ◌∷◌, ◌++◌, length, get_or, take, inl, inr, refl, ap, sym, ◌∙◌, arith, length-append, pow_mono, pow_pos}
use Rattle.std.specs.List.{AllByRecursion}
use Rattle.std.proofs.lemmas.Bool.{cases_lt, false≢true}
use Rattle.std.proofs.lemmas.Bool.Decides.{nat_tests}
use Rattle.shortest_tables.specs.Tables.{holds}
use Rattle.shortest_tables.specs.Numbers.{bits}
use Rattle.least_covers.specs.Covers.{AreBetween, are_held, how_many}
use Rattle.least_covers.specs.Rows.{IsJoinedSoFar, at}
use Rattle.least_covers.specs.Runs.{has}
use Rattle.least_covers.specs.Trees.{AreMade, IsBlock, high_of, is_own, low_of, own, sizes}
use Rattle.least_covers.specs.declared.blocks.Block.{Block}
use Rattle.least_covers.proofs.Held.{between_append, between_later, between_sooner, blocks_append, held_first, held_second, inside, sizes_append}
use Rattle.least_covers.proofs.Counts.{counts_all, counts_ext, counts_halves, counts_none}

or_false : (b : Bool) → b ≡ true → (b || false) ≡ true
or_false true h = refl
or_false false h = absurd (cc)

abbrev pub IsAligned : ℕ → ℕ → Type 0
IsAligned n free = (q : ℕ) × (n ≡ q * 2 ^ free)

module _ (width free from : ℕ) where
  abbrev whole : Block
  whole = record { network = from; length = width - free }

  module _ (aligned : IsAligned from free) (fits : from + 2 ^ free ≤ 2 ^ width) (short : free ≤ width) where
    whole_is : IsBlock width whole
    whole_is =
        let z : width - (width - free) ≡ free = omega arith in
        rw z (omega arith, aligned, fits)

    whole_held : (n : ℕ) → from ≤ n → n < from + 2 ^ free → are_held width (whole ∷ []) n ≡ true
    whole_held n low high =
        let z : width - (width - free) ≡ free = omega arith in
        or_false (holds (take (width - free) (bits width from)) (bits width n))
        (inside width (width - free) from n (omega arith) whole_is.1 whole_is.2 low (rw z high))

    whole_between : AreBetween width from (from + 2 ^ free) (whole ∷ [])
    whole_between = let z : width - (width - free) ≡ free = omega arith in rw z (omega arith, omega arith)

    whole_size : sizes width (whole ∷ []) ≡ 2 ^ free
    whole_size = let z : width - (width - free) ≡ free = omega arith in rw z (omega arith)

-- a block that lies among numbers of so many bits has no more free ones
pub narrow : (width free from : ℕ) → from + 2 ^ free ≤ 2 ^ width → free ≤ width
narrow width free from h = elim (cases_lt width free) [
  | inl past ↦
      let p : 2 ^ suc width ≤ 2 ^ free = pow_mono (let s : suc width ≤ free = omega arith in s) in
      let some = pow_pos width in absurd (omega arith)
  | inr inside' ↦ inside'
]

low_is : (shares : List ℕ) (k : ℕ) → 1 ≤ k → low_of shares k ≡ at shares k
low_is shares k some = let t : (k == 0) ≡ false = grind (arith, nat_tests) in rw t refl

not_zero : (s : ℕ) → 1 ≤ s → (s == 0) ≡ false
not_zero s h = grind (arith, nat_tests)

-- where the first half has some, the second has the others
not_own : (shares : List ℕ) (k s : ℕ) → low_of shares k ≡ s → 1 ≤ s → is_own shares k ≡ false
not_own shares k s e some = let z = not_zero s some in rw (e, z) refl

high_is : (shares : List ℕ) (k s : ℕ) → low_of shares k ≡ s → 1 ≤ s
    → high_of shares k ≡ min (length shares) k - s
high_is shares k s e some = let z = not_zero s some in rw (e, z) refl

own_none : (k : ℕ) → 1 ≤ k → is_own [] k ≡ true
own_none k some =
    let t : (k == 0) ≡ false = grind (arith, nat_tests) in
    let s : nat_lt 0 k ≡ true = grind (arith, nat_tests) in rw (t, s) refl

empty : {X : Type 0} (xs : List X) → length xs ≤ 0 → xs ≡ []
empty [] h = refl
empty (x ∷ xs) h = absurd (omega arith)

-- of a block whose numbers are all in the runs, its own prefix is chosen
pub whole_made : (width free from : ℕ) (runs : List (ℕ × ℕ))
    → ((n : ℕ) → from ≤ n → n < from + 2 ^ free → has runs n ≡ true) → IsAligned from free
    → from + 2 ^ free ≤ 2 ^ width
    → AreMade width runs free from (0 ∷ []) (λ k. own width (is_own [] k) from free)
whole_made width free from runs all aligned fits =
    let short = narrow width free from fits in
    let bs : ℕ → List Block = λ k. own width (is_own [] k) from free in
    let one : Block = record { network = from; length = width - free } in
    let is : (k : ℕ) → 1 ≤ k → bs k ≡ one ∷ [] =
    (λ k some. ap (λ b. own width b from free) (own_none k some)) in
    let none : bs 0 ≡ [] = refl in
    record {
      few = λ k. elim (cases_lt 0 k) [
        | inl some ↦ rw (is k some) some
        | inr zero' ↦ let z : k ≡ 0 = omega arith in rw z (omega arith)
      ];
      all = λ k some n low high passes. rw (is k some) (whole_held width free from aligned fits short n low high);
      adds = λ k some.
          let z : min k 1 - 1 ≡ 0 = omega arith in
          let e : at (0 ∷ []) k ≡ 0 = rw z refl in
          let count = counts_all (2 ^ free) (λ n. has runs (from + n))
          (λ n less. all (from + n) (omega arith) (omega arith)) in
          let size = whole_size width free from aligned fits short in
          ap (λ x. sizes width x) (is k some) ∙ size ∙ omega arith;
      blocks = λ k. elim (cases_lt 0 k) [
        | inl some ↦ rw (is k some) (whole_is width free from aligned fits short, tt)
        | inr zero' ↦ let z : k ≡ 0 = omega arith in rw z tt
      ];
      between = λ k. elim (cases_lt 0 k) [
        | inl some ↦ rw (is k some) (whole_between width free from aligned fits short)
        | inr zero' ↦ let z : k ≡ 0 = omega arith in rw z (omega arith)
      ];
    }

-- runs that say the same of the numbers of a block
pub same_made : (width free from : ℕ) (runs others : List (ℕ × ℕ)) (row : List ℕ)
    (c : ℕ → List Block)
    → ((n : ℕ) → from ≤ n → n < from + 2 ^ free → has others n ≡ has runs n)
    → AreMade width others free from row c → AreMade width runs free from row c
same_made width free from runs others row c same is =
    let count = counts_ext (2 ^ free) (λ n. has others (from + n)) (λ n. has runs (from + n))
    (λ n less. same (from + n) (omega arith) (omega arith)) in record {
      few = is.few;
      all = λ k some n low high passes. is.all k some n low high (same n low high ∙ passes);
      adds = λ k some. is.adds k some ∙ omega arith;
      blocks = is.blocks;
      between = is.between;
    }

module _ (width less from : ℕ) (runs : List (ℕ × ℕ)) where
  -- how many numbers of a block and of its halves are in the runs
  pub counts_of : how_many (2 ^ suc less) (λ n. has runs (from + n))
      ≡ how_many (2 ^ less) (λ n. has runs (from + n))
      + how_many (2 ^ less) (λ n. has runs ((from + 2 ^ less) + n))
  counts_of =
      let h = counts_halves less (λ n. has runs (from + n)) in
      let e = counts_ext (2 ^ less) (λ n. has runs (from + (2 ^ less + n)))
      (λ n. has runs ((from + 2 ^ less) + n))
      (λ n few. ap (λ m. has runs m) (let z : from + (2 ^ less + n) ≡ (from + 2 ^ less) + n = omega arith in z)) in
      omega arith

  high_end : (bs : List Block) → AreBetween width (from + 2 ^ less) ((from + 2 ^ less) + 2 ^ less) bs
      → AreBetween width (from + 2 ^ less) (from + 2 ^ suc less) bs
  high_end bs is =
      between_later width (from + 2 ^ less) ((from + 2 ^ less) + 2 ^ less) (from + 2 ^ suc less) bs (omega arith) is

  -- a block of which one half has no number of the runs
  pub low_made : (row : List ℕ) (c : ℕ → List Block)
      → ((n : ℕ) → from + 2 ^ less ≤ n → n < from + 2 ^ suc less → has runs n ≡ false)
      → AreMade width runs less from row c → AreMade width runs (suc less) from row c
  low_made row c none is =
      let count = counts_of in
      let rest = counts_none (2 ^ less) (λ n. has runs ((from + 2 ^ less) + n))
      (λ n few. none ((from + 2 ^ less) + n) (omega arith) (omega arith)) in record {
        few = is.few;
        all = λ k some n low high passes. elim (cases_lt n (from + 2 ^ less)) [
          | inl under ↦ is.all k some n low under passes
          | inr above ↦ absurd (false≢true (sym (none n above high) ∙ passes))
        ];
        adds = λ k some. is.adds k some ∙ omega arith;
        blocks = is.blocks;
        between = λ k. between_later width from (from + 2 ^ less) (from + 2 ^ suc less) (c k) (omega arith) (is.between k);
      }

  pub high_made : (row : List ℕ) (c : ℕ → List Block)
      → ((n : ℕ) → from ≤ n → n < from + 2 ^ less → has runs n ≡ false)
      → AreMade width runs less (from + 2 ^ less) row c → AreMade width runs (suc less) from row c
  high_made row c none is =
      let count = counts_of in
      let rest = counts_none (2 ^ less) (λ n. has runs (from + n))
      (λ n few. none (from + n) (omega arith) (omega arith)) in record {
        few = is.few;
        all = λ k some n low high passes. elim (cases_lt n (from + 2 ^ less)) [
          | inl under ↦ absurd (false≢true (sym (none n low under) ∙ passes))
          | inr above ↦ is.all k some n above (omega arith) passes
        ];
        adds = λ k some. is.adds k some ∙ omega arith;
        blocks = is.blocks;
        between = λ k. between_sooner width from (from + 2 ^ less) (from + 2 ^ suc less) (c k) (omega arith)
            (high_end (c k) (is.between k));
      }

  module _ (room : ℕ) (low high shares row : List ℕ) (c d : ℕ → List Block)
      (so : IsJoinedSoFar room low high shares row) (any : 1 ≤ length row)
      (count : how_many (2 ^ suc less) (λ n. has runs (from + n)) + room ≡ 2 ^ suc less)
      (first : AreMade width runs less from low c)
      (second : AreMade width runs less (from + 2 ^ less) high d) (aligned : IsAligned from (suc less))
      (fits : from + 2 ^ suc less ≤ 2 ^ width) where
    abbrev one : Block
    one = record { network = from; length = width - suc less }

    abbrev bs : ℕ → List Block
    bs k = own width (is_own shares k) from (suc less) ++ (c (low_of shares k) ++ d (high_of shares k))

    -- either one prefix is for the block, or some are for each half
    record IsOwn (k : ℕ) : Type 0 where
      own_is : bs k ≡ one ∷ []
      own_adds : at row k ≡ room

    record IsDivided (k s m : ℕ) : Type 0 where
      few : m ≤ k
      some : 1 ≤ s
      less_is : s < m
      divided_is : bs k ≡ c s ++ d (m - s)
      divided_adds : at row k ≡ at low s + at high (m - s)

    abbrev Choice : ℕ → Type 0
    Choice k = IsOwn k ⊎ ((s : ℕ) × (m : ℕ) × IsDivided k s m)

    choice : (k : ℕ) → 1 ≤ k → Choice k
    choice k some =
        let n : ℕ = length row in
        let m : ℕ = min k n in
        let same = so.count in
        let s : ℕ = get_or shares (m - 1) 0 in
        let place : at shares k ≡ s = ap (λ i. get_or shares i 0) (let z : min k (length shares) - 1 ≡ m - 1 = omega arith in z) in
        let lows : low_of shares k ≡ s = low_is shares k some ∙ place in
        elim (so.each m (omega arith) (omega arith)) [
          | inl own' ↦
              let zero_is : low_of shares k ≡ 0 = lows ∙ own'.0 in
              let t : nat_lt 0 k ≡ true = grind (arith, nat_tests) in
              let owned : is_own shares k ≡ true = rw (zero_is, t) refl in
              let none : c 0 ≡ [] = empty (c 0) (first.few 0) in
              let none_too : d 0 ≡ [] = empty (d 0) (second.few 0) in
              inl (record {
                own_is = rw (owned, zero_is, none, none_too) refl;
                own_adds = own'.1;
              })
          | inr shared ↦
              let positive = shared.0 in
              let owned : is_own shares k ≡ false = not_own shares k s lows positive in
              let rest : min (length shares) k - s ≡ m - s = omega arith in
              let highs : high_of shares k ≡ m - s = high_is shares k s lows positive ∙ rest in
              inr (
                s,
                m,
                record {
                  few = omega arith;
                  some = positive;
                  less_is = shared.1;
                  divided_is = rw (owned, highs, lows) refl;
                  divided_adds = shared.2;
                },
              )
        ]

    few_of : (k : ℕ) → Choice k → 1 ≤ k → length (bs k) ≤ k
    few_of k (inl is) some = rw is.own_is some
    few_of k (inr (s, m, is)) some =
        let a = first.few s in
        let b = second.few (m - s) in
        let l = length-append (c s) (d (m - s)) in
        let e = is.few in
        let f = is.less_is in rw is.divided_is (omega arith)

    all_of : (k : ℕ) → Choice k → (n : ℕ) → from ≤ n → n < from + 2 ^ suc less → has runs n ≡ true
        → are_held width (bs k) n ≡ true
    all_of k (inl is) n low_n high_n passes =
        rw is.own_is (whole_held width (suc less) from aligned fits (narrow width (suc less) from fits) n low_n high_n)
    all_of k (inr (s, m, is)) n low_n high_n passes =
        let few = is.less_is in
        rw is.divided_is (elim (cases_lt n (from + 2 ^ less)) [
          | inl under ↦ held_first width (c s) (d (m - s)) n (first.all s is.some n low_n under passes)
          | inr above ↦
              held_second width (c s) (d (m - s)) n
              (second.all (m - s) (omega arith) n above (omega arith) passes)
        ])

    adds_of : (k : ℕ) → Choice k
        → sizes width (bs k) ≡ at row k + how_many (2 ^ suc less) (λ n. has runs (from + n))
    adds_of k (inl is) =
        let size = whole_size width (suc less) from aligned fits (narrow width (suc less) from fits) in
        let e = is.own_adds in ap (λ x. sizes width x) is.own_is ∙ size ∙ omega arith
    adds_of k (inr (s, m, is)) =
        let few = is.less_is in
        let e = is.divided_adds in
        let both = sizes_append width (c s) (d (m - s)) in
        let a = first.adds s is.some in
        let b = second.adds (m - s) (omega arith) in
        let h = counts_of in ap (λ x. sizes width x) is.divided_is ∙ both ∙ omega arith

    blocks_of : (k : ℕ) → Choice k → AllByRecursion (IsBlock width) (bs k)
    blocks_of k (inl is) =
        rw is.own_is (whole_is width (suc less) from aligned fits (narrow width (suc less) from fits), tt)
    blocks_of k (inr (s, m, is)) =
        rw is.divided_is (blocks_append width (c s) (d (m - s)) (first.blocks s) (second.blocks (m - s)))

    halves_between : (i j : ℕ) → AreBetween width from (from + 2 ^ suc less) (c i ++ d j)
    halves_between i j =
        between_append width from (from + 2 ^ less) (from + 2 ^ suc less) (c i) (d j) (first.between i)
        (high_end (d j) (second.between j))

    between_of : (k : ℕ) → Choice k → AreBetween width from (from + 2 ^ suc less) (bs k)
    between_of k (inl is) =
        rw is.own_is (whole_between width (suc less) from aligned fits (narrow width (suc less) from fits))
    between_of k (inr (s, m, is)) = rw is.divided_is (halves_between s (m - s))

    pub both_made : AreMade width runs (suc less) from row bs
    both_made = record {
      few = λ k. elim (cases_lt 0 k) [
        | inl some ↦ few_of k (choice k some) some
        | inr none ↦
            let z : k ≡ 0 = omega arith in
            let a = first.few 0 in
            let b = second.few 0 in
            let l = length-append (c 0) (d 0) in rw z (omega arith)
      ];
      all = λ k some. all_of k (choice k some);
      adds = λ k some. adds_of k (choice k some);
      blocks = λ k. elim (cases_lt 0 k) [
        | inl some ↦ blocks_of k (choice k some)
        | inr none ↦
            let z : k ≡ 0 = omega arith in
            rw z (blocks_append width (c 0) (d 0) (first.blocks 0) (second.blocks 0))
      ];
      between = λ k. elim (cases_lt 0 k) [
        | inl some ↦ between_of k (choice k some)
        | inr none ↦ let z : k ≡ 0 = omega arith in rw z (halves_between 0 0)
      ];
    }
