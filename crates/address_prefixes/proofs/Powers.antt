-- Multiples of powers of two.
use Rattle.std.proofs.Common.{◌≡◌, ℕ, ◌+◌, ◌-◌, ◌*◌, ◌/◌, ◌%◌, ◌^◌, ◌≤◌, ◌<◌, bit_and, ap, ◌∙◌, arith}
use Rattle.std.proofs.Math.Nat.{div-add-mod', mul-le-mul_right}
use Rattle.std.proofs.Math.Pow.{pow-add, pow_pos}
use Rattle.std.proofs.lemmas.Bool.{cases_lt}
use Rattle.std.proofs.lemmas.Nat.{and_mask, mod_below}
use Rattle.address_prefixes.specs.Prefixes.{IsAligned}
use Rattle.std.proofs.Common.{rules}

-- of two multiples of a number, the greater is greater by that number
pub next_multiple : (a b c : ℕ) → a * c < b * c → a * c + c ≤ b * c
next_multiple a b c h = search (rules, cases_lt, mul-le-mul_right)

pub power_split : (j k : ℕ) → j ≤ k → 2 ^ k ≡ 2 ^ (k - j) * 2 ^ j
power_split j k h = grind (arith, pow-add)

-- the block of the numbers that begin with the bits of n, but for the last ones
pub record IsBlock (width length n rest : ℕ) : Type 0 where
  pub part : bit_and n rest ≤ n
  pub fits : n - bit_and n rest + rest < 2 ^ width
  pub aligned : IsAligned (n - bit_and n rest) (width - length)
  pub within : n ≤ n - bit_and n rest + rest
  pub below : n - bit_and n rest ≤ n

pub block_is : (width length n rest : ℕ) → length ≤ width → n < 2 ^ width
    → rest + 1 ≡ 2 ^ (width - length) → IsBlock width length n rest
block_is width length n rest le small size =
    let k : ℕ = width - length in
    let some = pow_pos k in
    let masked : bit_and n rest ≡ n % 2 ^ k =
    ap (λ m. bit_and n m) (let r : rest ≡ 2 ^ k - 1 = omega arith in r) ∙ and_mask n k in
    let whole : n / 2 ^ k * 2 ^ k + n % 2 ^ k ≡ n = div-add-mod' n (2 ^ k) in
    let all : 2 ^ width ≡ 2 ^ (width - k) * 2 ^ k = power_split k width (omega arith) in
    let next : n / 2 ^ k * 2 ^ k + 2 ^ k ≤ 2 ^ (width - k) * 2 ^ k =
    next_multiple (n / 2 ^ k) (2 ^ (width - k)) (2 ^ k) (omega (arith, whole, all, small)) in
    let less : n % 2 ^ k < 2 ^ k = mod_below n (2 ^ k) some in
    record {
      part = omega (arith, whole, masked);
      fits = omega (arith, whole, next, all, size, masked);
      aligned = (n / 2 ^ k, omega (arith, whole, masked));
      within = omega (arith, whole, less, size, masked);
      below = omega (arith, whole, masked);
    }
