-- The rows of blocks: that of a block whose numbers all pass, and that of two halves.
use Rattle.std.proofs.Common.{◌≡◌, ℕ, suc, ◌+◌, ◌-◌, ◌≤◌, ◌<◌, ◌^◌, Bool, true, false, min, List, [], ◌∷◌, length, refl, ap, sym, ◌∙◌, arith, pow_pos}
use Rattle.shortest_tables.specs.Tables.{Bits}
use Rattle.shortest_tables.specs.Numbers.{bits}
use Rattle.least_covers.specs.Covers.{how_many, some_holds}
use Rattle.least_covers.specs.Rows.{AreCovered, Falls, IsJoinedSoFar, IsRow, at}
use Rattle.least_covers.proofs.Counts.{counts_all, counts_ext, counts_halves, counts_le, counts_none}
use Rattle.least_covers.proofs.Halves.{has_root, high_bits, low_bits, root_holds, some_prefix, under, under_both, under_fewer, under_holds}
use Rattle.least_covers.proofs.Joins.{all_falls, all_least, first_within}

one_number : (k : ℕ) → at (0 ∷ []) k ≡ 0
one_number k = let z : min k 1 - 1 ≡ 0 = omega arith in rw z refl

pub whole_row : (most width : ℕ) (f : ℕ → Bool) → ((n : ℕ) → n < 2 ^ width → f n ≡ true)
    → IsRow most width f 0 (0 ∷ [])
whole_row most width f all =
    let some = pow_pos width in record {
      some = (0, some, all 0 some);
      least = λ k few ps fewer covered.
          let z = one_number k in
          let h = counts_le (2 ^ width) f (λ n. some_holds ps (bits width n)) covered in omega arith;
      falls = λ i j first le. let y = one_number i in let z = one_number j in omega arith;
      within = let z = one_number 1 in omega arith;
      count = let e = counts_all (2 ^ width) f all in omega arith;
    }

-- two tests of the numbers of a block that say the same have the same row
pub same_row : (most width room : ℕ) (f g : ℕ → Bool) (row : List ℕ)
    → ((n : ℕ) → n < 2 ^ width → g n ≡ f n) → IsRow most width f room row
    → IsRow most width g room row
same_row most width room f g row same is =
    let count = counts_ext (2 ^ width) g f same in
    let w = is.within in
    let r = is.count in record {
      some = (is.some.0, is.some.1, same is.some.0 is.some.1 ∙ is.some.2);
      least = λ k few ps fewer covered.
          let h = is.least k few ps fewer (λ n less passes. covered n less (same n less ∙ passes)) in
          omega arith;
      falls = is.falls;
      within = w;
      count = omega arith;
    }

module _ (width : ℕ) (ps : List Bits) where
  -- how many numbers of the halves the prefixes hold
  abbrev pub lows : ℕ
  lows = how_many (2 ^ width) (λ n. some_holds (under false ps) (bits width n))

  abbrev pub highs : ℕ
  highs = how_many (2 ^ width) (λ n. some_holds (under true ps) (bits width n))

  abbrev pub both : ℕ
  both = how_many (2 ^ suc width) (λ n. some_holds ps (bits (suc width) n))

  pub low_holds : (n : ℕ) → n < 2 ^ width
      → some_holds ps (bits (suc width) n) ≡ some_holds (under false ps) (bits width n)
  low_holds n less =
      ap (λ a. some_holds ps a) (low_bits width n less) ∙ under_holds false (bits width n) ps

  pub high_holds : (n : ℕ)
      → some_holds ps (bits (suc width) (2 ^ width + n)) ≡ some_holds (under true ps) (bits width n)
  high_holds n = ap (λ a. some_holds ps a) (high_bits width n) ∙ under_holds true (bits width n) ps

  pub both_is : both ≡ lows + highs
  both_is =
      let h = counts_halves width (λ n. some_holds ps (bits (suc width) n)) in
      let l = counts_ext (2 ^ width) (λ n. some_holds ps (bits (suc width) n))
      (λ n. some_holds (under false ps) (bits width n)) low_holds in
      let r = counts_ext (2 ^ width) (λ n. some_holds ps (bits (suc width) (2 ^ width + n)))
      (λ n. some_holds (under true ps) (bits width n)) (λ n less. high_holds n) in omega arith

  module _ (f : ℕ → Bool) (covered : AreCovered (suc width) f ps) where
    pub low_covered : AreCovered width f (under false ps)
    low_covered n less passes = sym (low_holds n less) ∙ covered n (omega arith) passes

    pub high_covered : AreCovered width (λ n. f (2 ^ width + n)) (under true ps)
    high_covered n less passes = sym (high_holds n) ∙ covered (2 ^ width + n) (omega arith) passes

module _ (most width : ℕ) (f : ℕ → Bool) (room other : ℕ) where
  abbrev upper : ℕ → Bool
  upper n = f (2 ^ width + n)

  -- a block of whose second half no number passes
  pub low_row : (row : List ℕ) → ((n : ℕ) → n < 2 ^ width → f (2 ^ width + n) ≡ false)
      → IsRow most width f room row → IsRow most (suc width) f (room + 2 ^ width) row
  low_row row none is =
      let count = counts_halves width f in
      let rest = counts_none (2 ^ width) upper none in
      let w = is.within in
      let r = is.count in
      let first = is.some.1 in record {
        some = (is.some.0, omega (arith, first), is.some.2);
        least = λ k few ps fewer covered.
            let b = both_is width ps in
            let u = under_fewer false ps in
            let h = is.least k few (under false ps) (omega arith) (low_covered width ps f covered) in
            omega arith;
        falls = is.falls;
        within = omega arith;
        count = omega arith;
      }

  -- a block of whose first half no number passes
  pub high_row : (row : List ℕ) → ((n : ℕ) → n < 2 ^ width → f n ≡ false)
      → IsRow most width (λ n. f (2 ^ width + n)) room row
      → IsRow most (suc width) f (room + 2 ^ width) row
  high_row row none is =
      let count = counts_halves width f in
      let rest = counts_none (2 ^ width) f none in
      let w = is.within in
      let r = is.count in
      let first = is.some.1 in record {
        some = (2 ^ width + is.some.0, omega (arith, first), is.some.2);
        least = λ k few ps fewer covered.
            let b = both_is width ps in
            let u = under_fewer true ps in
            let h = is.least k few (under true ps) (omega arith) (high_covered width ps f covered) in
            omega arith;
        falls = is.falls;
        within = omega arith;
        count = omega arith;
      }

  module _ (low high shares row : List ℕ) (some : 1 ≤ most) (any : 1 ≤ length low)
      (some_high : 1 ≤ length high) (first : IsRow most width f room low)
      (second : IsRow most width (λ n. f (2 ^ width + n)) other high)
      (so : IsJoinedSoFar (room + other) low high shares row)
      (whole : length row ≡ min most (length low + length high)) where
    fits : at low 1 + at high 1 ≤ room + other
    fits = let a = first.within in let b = second.within in omega arith

    count_is : how_many (2 ^ suc width) f + (room + other) ≡ 2 ^ suc width
    count_is =
        let c = counts_halves width f in
        let a = first.count in let b = second.count in omega arith

    all_fall : Falls row
    all_fall = all_falls (room + other) low high most shares row so some any some_high whole first.falls second.falls fits

    within_room : at row 1 ≤ room + other
    within_room = first_within (room + other) low high most shares row so some any some_high whole first.falls second.falls fits

    -- one prefix holds the whole block
    rooted : (k : ℕ) (ps : List Bits) → 1 ≤ k → has_root ps ≡ true
        → at row k + how_many (2 ^ suc width) f ≤ both width ps
    rooted k ps one root =
        let all = counts_all (2 ^ suc width) (λ n. some_holds ps (bits (suc width) n))
        (λ n less. root_holds ps (bits (suc width) n) root) in
        let a = all_fall 1 k (omega arith) one in
        let w = within_room in
        let c = count_is in omega arith

    shared : (k : ℕ) (ps : List Bits) → k ≤ most → length ps ≤ k → AreCovered (suc width) f ps
        → has_root ps ≡ false → at row k + how_many (2 ^ suc width) f ≤ both width ps
    shared k ps few fewer covered root =
        let u = under_both ps root in
        let i : ℕ = length (under false ps) in
        let lower = low_covered width ps f covered in
        let upper_half = high_covered width ps f covered in
        let one = some_prefix (under false ps) (bits width first.some.0) (lower first.some.0 first.some.1 first.some.2) in
        let two = some_prefix (under true ps) (bits width second.some.0)
        (upper_half second.some.0 second.some.1 second.some.2) in
        let l = first.least i (omega arith) (under false ps) (omega arith) lower in
        let h = second.least (k - i) (omega arith) (under true ps) (omega arith) upper_half in
        let best = all_least (room + other) low high most shares row so some any some_high whole
        first.falls second.falls fits k i few one (omega arith) in
        let b = both_is width ps in
        let c = counts_halves width f in omega arith

    least_of : (k : ℕ) → k ≤ most → (ps : List Bits) → length ps ≤ k → AreCovered (suc width) f ps
        → at row k + how_many (2 ^ suc width) f ≤ both width ps
    least_of k few ps fewer covered =
        let one = some_prefix ps (bits (suc width) first.some.0)
        (let less = first.some.1 in covered first.some.0 (omega (arith, less)) first.some.2) in
        let P : Bool → Type 0 = λ b. has_root ps ≡ b → at row k + how_many (2 ^ suc width) f ≤ both width ps in
        let go : P (has_root ps) = elim (has_root ps) as P [
          | true ↦ λ root. rooted k ps (omega arith) root
          | false ↦ λ root. shared k ps few fewer covered root
        ] in go refl

    pub both_row : IsRow most (suc width) f (room + other) row
    both_row =
        let less = first.some.1 in record {
          some = (first.some.0, omega (arith, less), first.some.2);
          least = least_of;
          falls = all_fall;
          within = within_room;
          count = count_is;
        }
