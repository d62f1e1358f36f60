-- Blocks: which numbers they hold, and how many.
use Rattle.std.proofs.Common.{◌≡◌, ℕ, zero, suc, ◌+◌, ◌-◌, ◌*◌, ◌≤◌, ◌<◌, ◌^◌, Bool, true, false, ◌||◌, if◌then◌else◌, nat_le, List, [], ◌∷◌, ◌++◌, length, take, inl, inr, refl, ap, arith, rules}
use Rattle.std.specs.List.{AllByRecursion}
use Rattle.std.proofs.Math.Nat.{mul-le-mul_right, mul-sub}
use Rattle.std.proofs.Math.Pow.{pow-add}
use Rattle.std.proofs.lemmas.Bool.{cases_lt}
use Rattle.std.proofs.lemmas.Bool.Decides.{nat_tests}
use Rattle.shortest_tables.specs.Tables.{Bits, holds}
use Rattle.shortest_tables.specs.Numbers.{bits}
use Rattle.least_covers.specs.Covers.{AreBetween, are_held, how_many}
use Rattle.least_covers.specs.Trees.{IsBlock, sizes}
use Rattle.least_covers.specs.declared.blocks.Block.{Block}
use Rattle.least_covers.proofs.Counts.{counts_all, counts_ext, counts_halves, counts_none, counts_or}
use Rattle.least_covers.proofs.Halves.{high_bits, low_bits}

next_multiple : (a b c : ℕ) → a * c < b * c → a * c + c ≤ b * c
next_multiple a b c h = search (rules, cases_lt, mul-le-mul_right)

less_multiple : (n m q r s : ℕ) → n ≡ q * s → m ≡ r * s → n - m ≡ (q - r) * s
less_multiple n m q r s e f = let h = mul-sub s q r in omega (arith, h)

power_split : (l width : ℕ) → l ≤ width → 2 ^ width ≡ 2 ^ l * 2 ^ (width - l)
power_split l width h = grind (arith, pow-add)

-- a number that lies in a block begins with its bits
pub inside : (width l n m : ℕ) → l ≤ width → ((q : ℕ) × (n ≡ q * 2 ^ (width - l)))
    → n + 2 ^ (width - l) ≤ 2 ^ width → n ≤ m → m < n + 2 ^ (width - l)
    → holds (take l (bits width n)) (bits width m) ≡ true
inside width zero n m short aligned fits low high = refl
inside zero (suc l) n m short aligned fits low high = absurd (omega arith)
inside (suc width) (suc l) n m short aligned fits low high =
    let z : suc width - suc l ≡ width - l = omega arith in
    let is : n ≡ aligned.0 * 2 ^ (width - l) = rw z at aligned.1 in
    let split = power_split l width (omega arith) in
    let past : m < n + 2 ^ (width - l) = rw z at high in
    let end : n + 2 ^ (width - l) ≤ 2 ^ suc width = rw z at fits in
    elim (cases_lt n (2 ^ width)) [
      | inl under ↦
          let next = next_multiple aligned.0 (2 ^ l) (2 ^ (width - l)) (omega arith) in
          let small : n + 2 ^ (width - l) ≤ 2 ^ width = omega arith in
          let first : nat_le (2 ^ width) n ≡ false = grind (arith, nat_tests) in
          let second : nat_le (2 ^ width) m ≡ false = grind (arith, nat_tests) in
          rw (first, second) (inside width l n m (omega arith) (aligned.0, is) small low past)
      | inr above ↦
          let first : nat_le (2 ^ width) n ≡ true = grind (arith, nat_tests) in
          let second : nat_le (2 ^ width) m ≡ true = grind (arith, nat_tests) in
          rw (first, second) (inside width l (n - 2 ^ width) (m - 2 ^ width) (omega arith)
          (aligned.0 - 2 ^ l, less_multiple n (2 ^ width) aligned.0 (2 ^ l) (2 ^ (width - l)) is split)
          (omega arith) (omega arith) (omega arith))
    ]

-- and one that begins with its bits lies in it
pub outside : (width l n m : ℕ) → l ≤ width → ((q : ℕ) × (n ≡ q * 2 ^ (width - l)))
    → n + 2 ^ (width - l) ≤ 2 ^ width → m < 2 ^ width
    → holds (take l (bits width n)) (bits width m) ≡ true → (n ≤ m) × (m < n + 2 ^ (width - l))
outside width zero n m short aligned fits small held =
    let z : width - 0 ≡ width = omega arith in
    let end : n + 2 ^ width ≤ 2 ^ width = rw z at fits in
    rw z (omega (arith, end), omega (arith, end))
outside zero (suc l) n m short aligned fits small held = absurd (omega arith)
outside (suc width) (suc l) n m short aligned fits small held =
    let z : suc width - suc l ≡ width - l = omega arith in
    let is : n ≡ aligned.0 * 2 ^ (width - l) = rw z at aligned.1 in
    let split = power_split l width (omega arith) in
    let end : n + 2 ^ (width - l) ≤ 2 ^ suc width = rw z at fits in
    rw z (elim (cases_lt n (2 ^ width)) [
      | inl under ↦
          let next = next_multiple aligned.0 (2 ^ l) (2 ^ (width - l)) (omega arith) in
          let fewer : n + 2 ^ (width - l) ≤ 2 ^ width = omega arith in
          let first : nat_le (2 ^ width) n ≡ false = grind (arith, nat_tests) in
          elim (cases_lt m (2 ^ width)) [
            | inl low ↦
                let second : nat_le (2 ^ width) m ≡ false = grind (arith, nat_tests) in
                let again : holds (take l (bits width n)) (bits width m) ≡ true = rw (first, second) at held in
                outside width l n m (omega arith) (aligned.0, is) fewer low again
            | inr high ↦
                let second : nat_le (2 ^ width) m ≡ true = grind (arith, nat_tests) in
                let none : false ≡ true = rw (first, second) at held in absurd (cc)
          ]
      | inr above ↦
          let first : nat_le (2 ^ width) n ≡ true = grind (arith, nat_tests) in
          elim (cases_lt m (2 ^ width)) [
            | inl low ↦
                let second : nat_le (2 ^ width) m ≡ false = grind (arith, nat_tests) in
                let none : false ≡ true = rw (first, second) at held in absurd (cc)
            | inr high ↦
                let second : nat_le (2 ^ width) m ≡ true = grind (arith, nat_tests) in
                let again : holds (take l (bits width (n - 2 ^ width))) (bits width (m - 2 ^ width)) ≡ true = rw (first, second) at held in
                let in_half = outside width l (n - 2 ^ width) (m - 2 ^ width) (omega arith)
                (aligned.0 - 2 ^ l, less_multiple n (2 ^ width) aligned.0 (2 ^ l) (2 ^ (width - l)) is split)
                (omega arith) (omega arith) again in
                let low_end = in_half.0 in
                let high_end = in_half.1 in
                (omega (arith, low_end), omega (arith, high_end))
          ]
    ])

-- how many addresses begin with the bits of a prefix
prefix_size : (width : ℕ) (p : Bits) → length p ≤ width
    → how_many (2 ^ width) (λ n. holds p (bits width n)) ≡ 2 ^ (width - length p)
prefix_size width [] h =
    let z : width - 0 ≡ width = omega arith in
    rw z (counts_all (2 ^ width) (λ n. holds [] (bits width n)) (λ n less. refl))
prefix_size zero (b ∷ p) h = absurd (omega arith)
prefix_size (suc width) (true ∷ p) h =
    let z : suc width - suc (length p) ≡ width - length p = omega arith in
    let f : ℕ → Bool = λ n. holds (true ∷ p) (bits (suc width) n) in
    let both = counts_halves width f in
    let low = counts_none (2 ^ width) f (λ n less. ap (λ a. holds (true ∷ p) a) (low_bits width n less)) in
    let high = counts_ext (2 ^ width) (λ n. f (2 ^ width + n)) (λ n. holds p (bits width n))
    (λ n less. ap (λ a. holds (true ∷ p) a) (high_bits width n)) in
    let again = prefix_size width p (omega arith) in rw z (omega arith)
prefix_size (suc width) (false ∷ p) h =
    let z : suc width - suc (length p) ≡ width - length p = omega arith in
    let f : ℕ → Bool = λ n. holds (false ∷ p) (bits (suc width) n) in
    let both = counts_halves width f in
    let low = counts_ext (2 ^ width) f (λ n. holds p (bits width n))
    (λ n less. ap (λ a. holds (false ∷ p) a) (low_bits width n less)) in
    let high = counts_none (2 ^ width) (λ n. f (2 ^ width + n))
    (λ n less. ap (λ a. holds (false ∷ p) a) (high_bits width n)) in
    let again = prefix_size width p (omega arith) in rw z (omega arith)

length_bits : (width n : ℕ) → length (bits width n) ≡ width
length_bits zero n = refl
length_bits (suc width) n =
    ap (λ k. suc k) (length_bits width (if nat_le (2 ^ width) n then n - 2 ^ width else n))

length_prefix : (l : ℕ) (p : Bits) → l ≤ length p → length (take l p) ≡ l
length_prefix zero p h = refl
length_prefix (suc l) [] h = absurd (omega arith)
length_prefix (suc l) (b ∷ p) h = ap (λ k. suc k) (length_prefix l p (omega arith))

-- blocks hold at most as many numbers as they have together
pub held_sizes : (width : ℕ) (bs : List Block) → AllByRecursion (IsBlock width) bs
    → how_many (2 ^ width) (are_held width bs) ≤ sizes width bs
held_sizes width [] h =
    let none = counts_none (2 ^ width) (are_held width []) (λ n less. refl) in omega arith
held_sizes width (b ∷ bs) h =
    let p : Bits = take b.length (bits width b.network) in
    let all = length_bits width b.network in
    let short = h.0.0 in
    let l : length p ≡ b.length = length_prefix b.length (bits width b.network) (omega (arith, short)) in
    let one = prefix_size width p (omega (arith, short)) in
    let same : 2 ^ (width - length p) ≡ 2 ^ (width - b.length) = ap (λ k. 2 ^ (width - k)) l in
    let rest = held_sizes width bs h.1 in
    let either = counts_or (2 ^ width) (λ n. holds p (bits width n)) (are_held width bs) in omega arith

module _ (width : ℕ) where
  pub sizes_append : (bs cs : List Block) → sizes width (bs ++ cs) ≡ sizes width bs + sizes width cs
  sizes_append [] cs = omega arith
  sizes_append (b ∷ bs) cs = let h = sizes_append bs cs in omega arith

  pub blocks_append : (bs cs : List Block) → AllByRecursion (IsBlock width) bs
      → AllByRecursion (IsBlock width) cs → AllByRecursion (IsBlock width) (bs ++ cs)
  blocks_append [] cs h k = k
  blocks_append (b ∷ bs) cs h k = (h.0, blocks_append bs cs h.1 k)

  pub between_later : (from past more : ℕ) (bs : List Block) → past ≤ more
      → AreBetween width from past bs → AreBetween width from more bs
  between_later from past more [] h is = omega arith
  between_later from past more (b ∷ bs) h is =
      (is.0, between_later (b.network + 2 ^ (width - b.length)) past more bs h is.1)

  pub between_sooner : (first from past : ℕ) (bs : List Block) → first ≤ from
      → AreBetween width from past bs → AreBetween width first past bs
  between_sooner first from past [] h is = omega arith
  between_sooner first from past (b ∷ bs) h is = (let k = is.0 in omega (arith, k), is.1)

  pub between_append : (from middle past : ℕ) (bs cs : List Block) → AreBetween width from middle bs
      → AreBetween width middle past cs → AreBetween width from past (bs ++ cs)
  between_append from middle past [] cs h k = between_sooner from middle past cs h k
  between_append from middle past (b ∷ bs) cs h k =
      (h.0, between_append (b.network + 2 ^ (width - b.length)) middle past bs cs h.1 k)

  or_true : (a b : Bool) → b ≡ true → (a || b) ≡ true
  or_true true b h = refl
  or_true false b h = h

  pub held_first : (bs cs : List Block) (n : ℕ) → are_held width bs n ≡ true
      → are_held width (bs ++ cs) n ≡ true
  held_first [] cs n h = absurd (cc)
  held_first (b ∷ bs) cs n h =
      let P : Bool → Type 0 = λ t. (t || are_held width bs n) ≡ true → (t || are_held width (bs ++ cs) n) ≡ true in
      let go : P (holds (take b.length (bits width b.network)) (bits width n)) =
      elim (holds (take b.length (bits width b.network)) (bits width n)) as P [
        | true ↦ λ is. refl
        | false ↦ λ is. held_first bs cs n is
      ] in go h

  pub held_second : (bs cs : List Block) (n : ℕ) → are_held width cs n ≡ true
      → are_held width (bs ++ cs) n ≡ true
  held_second [] cs n h = h
  held_second (b ∷ bs) cs n h =
      or_true (holds (take b.length (bits width b.network)) (bits width n)) (are_held width (bs ++ cs) n)
      (held_second bs cs n h)
