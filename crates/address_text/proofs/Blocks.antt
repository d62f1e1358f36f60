-- Blocks of numbers that begin with the same bits.
use Rattle.std.proofs.Common.{◌≡◌, ℕ, ◌+◌, ◌-◌, ◌*◌, ◌/◌, ◌%◌, ◌^◌, ◌≤◌, ◌<◌, arith}
use Rattle.std.proofs.Math.Nat.{div-add-mod', mul-le-mul_right}
use Rattle.std.proofs.Math.Pow.{pow-add}
use Rattle.std.proofs.lemmas.Bool.{cases_lt}
use Rattle.std.proofs.lemmas.Nat.{pow_below}
use Rattle.std.proofs.Common.{rules}

next_multiple : (a b c : ℕ) → a * c < b * c → a * c + c ≤ b * c
next_multiple a b c h = search (rules, cases_lt, mul-le-mul_right)

power_split : (j k : ℕ) → j ≤ k → 2 ^ k ≡ 2 ^ (k - j) * 2 ^ j
power_split j k h = grind (arith, pow-add)

-- the block of a number of so many bits has no longer ones
pub block_fits : (width free n : ℕ) → free ≤ width → n < 2 ^ width
    → n - n % 2 ^ free + 2 ^ free ≤ 2 ^ width
block_fits width free n le small =
    let whole : n / 2 ^ free * 2 ^ free + n % 2 ^ free ≡ n = div-add-mod' n (2 ^ free) in
    let all : 2 ^ width ≡ 2 ^ (width - free) * 2 ^ free = power_split free width le in
    let next : n / 2 ^ free * 2 ^ free + 2 ^ free ≤ 2 ^ (width - free) * 2 ^ free =
    next_multiple (n / 2 ^ free) (2 ^ (width - free)) (2 ^ free)
    (omega (arith, whole, all, small)) in
    omega (arith, whole, next, all)

pub size_is : (size told free : ℕ) → told ≡ free → told < 128 → size ≡ (1 * 2 ^ told) % 2 ^ 128
    → size ≡ 2 ^ free
size_is size told free same less is = grind (arith, pow_below)
