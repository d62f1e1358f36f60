-- Masks: a number is the mask of one length at most.
use Rattle.std.proofs.Common.{◌≡◌, ℕ, ◌+◌, ◌-◌, ◌^◌, ◌≤◌, ◌<◌, inl, inr, arith}
use Rattle.std.proofs.Math.Pow.{pow-add, pow_mono}
use Rattle.std.proofs.lemmas.Nat.{pow_below}
use Rattle.std.proofs.lemmas.Bool.{cases_lt}
use Rattle.address_text.specs.Lines.{IsMask, IsNetmask, IsWildcard}

same_power : (i j : ℕ) → 2 ^ i ≡ 2 ^ j → i ≡ j
same_power i j same = grind (arith, cases_lt, pow_below)

doubled : (width : ℕ) → 0 < width → 2 ^ width ≡ 2 ^ (width - 1) + 2 ^ (width - 1)
doubled width some =
    let e : width ≡ width - 1 + 1 = omega arith in
    let p = pow-add 2 (width - 1) 1 in
    grind arith

-- bits of 1 come first in a mask, or bits of 0
not_both : (width mask a b : ℕ) → a ≤ width → IsNetmask width a mask → IsWildcard width b mask → ⊥
not_both width mask a b le net (some, less, wild) =
    let twice : 2 ^ width ≡ 2 ^ (width - 1) + 2 ^ (width - 1) = doubled width (omega arith) in
    let low : 2 ^ (width - b) ≤ 2 ^ (width - 1) = pow_mono (omega arith) in
    let more : 2 ^ 0 < 2 ^ (width - b) = pow_below 0 (width - b) (omega arith) in
    elim (cases_lt 0 a) [
      | inl one ↦
          let high : 2 ^ (width - a) ≤ 2 ^ (width - 1) = pow_mono (omega arith) in omega arith
      | inr none ↦ grind arith
    ]

pub mask_unique : (width mask a b : ℕ) → IsMask width a mask → IsMask width b mask → a ≡ b
mask_unique width mask a b (le, inl one) (less, inl other) =
    let same : width - a ≡ width - b =
    same_power (width - a) (width - b) (omega (arith, one, other)) in omega arith
mask_unique width mask a b (le, inl one) (less, inr other) =
    absurd (not_both width mask a b le one other)
mask_unique width mask a b (le, inr one) (less, inl other) =
    absurd (not_both width mask b a less other one)
mask_unique width mask a b (le, inr one) (less, inr other) =
    let same : width - a ≡ width - b =
    same_power (width - a) (width - b) (omega (arith, one.2, other.2)) in omega arith
