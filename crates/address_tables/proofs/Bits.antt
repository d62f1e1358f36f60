-- Which numbers begin with the first bits of another, and how long such prefixes are.
use Rattle.std.proofs.Common.{◌≡◌, ℕ, zero, suc, ◌+◌, ◌-◌, ◌*◌, ◌≤◌, ◌<◌, ◌^◌, Bool, true, false, ◌&&◌, if◌then◌else◌, nat_le, nat_lt, List, [], ◌∷◌, length, take, inl, inr, refl, ap, sym, ◌∙◌, arith, rules}
use Rattle.std.proofs.Math.Pow.{pow-add, pow_pos}
use Rattle.std.proofs.Math.Nat.{mul-le-mul_right, mul-sub}
use Rattle.std.proofs.lemmas.Bool.{cases_lt}
use Rattle.std.proofs.lemmas.Bool.Decides.{nat_tests}
use Rattle.address_prefixes.proofs.Powers.{next_multiple, power_split}
use Rattle.shortest_tables.specs.Tables.{Bits, holds, shorter}
use Rattle.shortest_tables.specs.Numbers.{bits}

less_multiple : (n m q r s : ℕ) → n ≡ q * s → m ≡ r * s → n - m ≡ (q - r) * s
less_multiple n m q r s e f = let h = mul-sub s q r in omega (arith, h)

shifted : (by n m : ℕ) → by ≤ n → by ≤ m → nat_le (n - by) (m - by) ≡ nat_le n m
shifted by n m h j = grind (arith, nat_tests)

shifted_both : (by n m last : ℕ) → by ≤ n → by ≤ m → by ≤ last
    → (nat_le (n - by) (m - by) && nat_le (m - by) (last - by)) ≡ (nat_le n m && nat_le m last)
shifted_both by n m last h j k = rw (shifted by n m h j, shifted by m last j k) refl

-- the number is the last one that begins with as many bits of the first one, whose others are 0
pub record IsEnd (width l n last : ℕ) : Type 0 where
  pub short : l ≤ width
  pub aligned : (q : ℕ) × (n ≡ q * 2 ^ (width - l))
  pub ends : last + 1 ≡ n + 2 ^ (width - l)
  pub fits : last < 2 ^ width

all_inside : (width n m last : ℕ) → IsEnd width 0 n last → m < 2 ^ width
    → (nat_le n m && nat_le m last) ≡ true
all_inside width n m last is small =
    let z : width - 0 ≡ width = omega arith in
    let ends : last + 1 ≡ n + 2 ^ width = rw z at is.ends in
    let fits = is.fits in
    let low : n ≤ m = omega arith in
    let high : m ≤ last = omega arith in grind (arith, nat_tests)

-- behind a first bit that both have
lower_half : (width l n last : ℕ) → IsEnd (suc width) (suc l) n last → n < 2 ^ width
    → IsEnd width l n last
lower_half width l n last is low =
    let z : suc width - suc l ≡ width - l = omega arith in
    let short : l ≤ width = (let h = is.short in omega arith) in
    let aligned = is.aligned in
    let at : n ≡ aligned.0 * 2 ^ (width - l) = rw z at aligned.1 in
    let ends : last + 1 ≡ n + 2 ^ (width - l) = rw z at is.ends in
    let all : 2 ^ width ≡ 2 ^ (width - (width - l)) * 2 ^ (width - l) =
    power_split (width - l) width (omega arith) in
    let next : aligned.0 * 2 ^ (width - l) + 2 ^ (width - l)
    ≤ 2 ^ (width - (width - l)) * 2 ^ (width - l) =
    next_multiple aligned.0 (2 ^ (width - (width - l))) (2 ^ (width - l)) (omega arith) in
    record { short = short; aligned = (aligned.0, at); ends = ends; fits = omega arith }

upper_half : (width l n last : ℕ) → IsEnd (suc width) (suc l) n last → 2 ^ width ≤ n
    → IsEnd width l (n - 2 ^ width) (last - 2 ^ width)
upper_half width l n last is high =
    let z : suc width - suc l ≡ width - l = omega arith in
    let short : l ≤ width = (let h = is.short in omega arith) in
    let aligned = is.aligned in
    let at : n ≡ aligned.0 * 2 ^ (width - l) = rw z at aligned.1 in
    let ends : last + 1 ≡ n + 2 ^ (width - l) = rw z at is.ends in
    let fits : last < 2 ^ suc width = is.fits in
    let some = pow_pos (width - l) in
    let all : 2 ^ width ≡ 2 ^ (width - (width - l)) * 2 ^ (width - l) =
    power_split (width - l) width (omega arith) in
    record {
      short = short;
      aligned = (
        aligned.0 - 2 ^ (width - (width - l)),
        less_multiple n (2 ^ width) aligned.0 (2 ^ (width - (width - l))) (2 ^ (width - l)) at all,
      );
      ends = omega arith;
      fits = omega arith;
    }

-- an address begins with the first bits just where it lies between the first and the last
pub holds_is : (width l n m last : ℕ) → IsEnd width l n last → m < 2 ^ width
    → holds (take l (bits width n)) (bits width m) ≡ (nat_le n m && nat_le m last)
holds_is width zero n m last is small = sym (all_inside width n m last is small)
holds_is zero (suc l) n m last is small = let h = is.short in absurd (omega arith)
holds_is (suc width) (suc l) n m last is small =
    elim (cases_lt n (2 ^ width)) [
      | inl low ↦
          let half = lower_half width l n last is low in
          let first : nat_le (2 ^ width) n ≡ false = grind (arith, nat_tests) in
          elim (cases_lt m (2 ^ width)) [
            | inl under ↦
                let second : nat_le (2 ^ width) m ≡ false = grind (arith, nat_tests) in
                rw (first, second) (holds_is width l n m last half under)
            | inr above ↦
                let second : nat_le (2 ^ width) m ≡ true = grind (arith, nat_tests) in
                let ends = half.fits in
                let after : nat_le n m ≡ true = grind (arith, nat_tests) in
                let none : nat_le m last ≡ false = grind (arith, nat_tests) in
                rw (first, second, after, none) refl
          ]
      | inr high ↦
          let half = upper_half width l n last is high in
          let first : nat_le (2 ^ width) n ≡ true = grind (arith, nat_tests) in
          elim (cases_lt m (2 ^ width)) [
            | inl under ↦
                let second : nat_le (2 ^ width) m ≡ false = grind (arith, nat_tests) in
                let none : nat_le n m ≡ false = grind (arith, nat_tests) in
                rw (first, second, none) refl
            | inr above ↦
                let second : nat_le (2 ^ width) m ≡ true = grind (arith, nat_tests) in
                let ends = is.ends in
                let some = pow_pos (suc width - suc l) in
                rw (first, second)
                (holds_is width l (n - 2 ^ width) (m - 2 ^ width) (last - 2 ^ width) half (omega arith)
                ∙ shifted_both (2 ^ width) n m last high above (omega arith))
          ]
    ]

pub length_prefix : (width l n : ℕ) → l ≤ width → length (take l (bits width n)) ≡ l
length_prefix width zero n h = refl
length_prefix zero (suc l) n h = absurd (omega arith)
length_prefix (suc width) (suc l) n h =
    ap (λ k. suc k) (length_prefix width l (if nat_le (2 ^ width) n then n - 2 ^ width else n) (omega arith))

pub shorter_is : (p q : Bits) → shorter p q ≡ nat_lt (length p) (length q)
shorter_is p [] = grind (arith, nat_tests)
shorter_is [] (c ∷ q) = grind (arith, nat_tests)
shorter_is (b ∷ p) (c ∷ q) =
    let again = shorter_is p q in grind (arith, nat_tests)
