-- Distances of signed keys, as the difference of 128 bits gives them.
use Rattle.std.specs.Prelude.{◌≡◌, ℕ, ℤ, ◌-ℤ◌, ◌≤ℤ◌, ◌<ℤ◌, ◌<◌, ◌^◌, false, unsigned_abs}
use Rattle.std.proofs.Common.{T, arith, to_z, of_z, Fits, SFits}
use Rattle.std.proofs.lemmas.Int.{ints, to_z-of_z}
use Rattle.std.specs.Int.{w128}
use Rattle.std.specs.Int.Signed.{non_neg}
use Rattle.std.specs.declared.cmp.Ordering.{Ordering}
use Rattle.std.specs.declared.cmp.Ordering.TheVariants.{Less, Equal, Greater}
use Rattle.std.specs.Ordering.{int_cmp, is_gt, MatchOrdering}
use Rattle.std.specs.Cmp.{int_ranks}
use Rattle.range_keys.specs.Signed.{IsSigned, signed_order, signed_distance}
use Rattle.range_keys.specs.Order.{NotAbove}
use mir.Syntax.{Width}

not_above : (a b : ℤ) (o : Ordering) → MatchOrdering o (a <ℤ b) (a ≡ b) (b <ℤ a)
    → is_gt o ≡ false → a ≤ℤ b
not_above a b Less h e = omega (arith, ints)
not_above a b Equal h e = omega (arith, ints)
not_above a b Greater h e = cc

difference_is_distance : (top : ℕ) (a b : ℤ) → IsSigned top a → IsSigned top b
    → NotAbove (signed_order top) a b → unsigned_abs (b -ℤ a) ≡ signed_distance top a b
difference_is_distance top a b p q e =
    let ordered : a ≤ℤ b = not_above a b (int_cmp a b) (int_ranks a b) e in
    omega (arith, ints)

-- both keys are cast from w bits, in which no other number fits than those up to the greatest key
module _ (w : Width) (top : ℕ) (small : top < 2 ^ 64) (signed : (z : ℤ) → SFits w z → IsSigned top z)
    (a b : ℤ) (fits_a : SFits w a) (fits_b : SFits w b) where
  -- the difference of 128 bits
  abbrev difference : ℤ
  difference = to_z w128 (of_z w128 (to_z w (of_z w b))) -ℤ to_z w128 (of_z w128 (to_z w (of_z w a)))

  wide : SFits w128 a × SFits w128 b × SFits w128 (b -ℤ a)
  wide =
      let p = signed a fits_a in
      let q = signed b fits_b in
      (omega (arith, ints), omega (arith, ints), omega (arith, ints))

  pub difference_fits : SFits w128 difference
  difference_fits =
      let (wide_a, wide_b, fits) = wide in simp to_z-of_z fits

  module _ (ordered : NotAbove (signed_order top) a b) where
    pub wide_difference : unsigned_abs (to_z w128 (of_z w128 difference)) ≡ signed_distance top a b
    wide_difference =
        let (wide_a, wide_b, fits) = wide in
        simp to_z-of_z
        (difference_is_distance top a b (signed a fits_a) (signed b fits_b) ordered)

    pub difference_is_natural : let d = to_z w128 (of_z w128 difference) in
        T (non_neg d) × Fits w128 (unsigned_abs d)
    difference_is_natural =
        let le : a ≤ℤ b = not_above a b (int_cmp a b) (int_ranks a b) ordered in
        let (wide_a, wide_b, fits) = wide in
        let p = signed a fits_a in
        let q = signed b fits_b in
        let natural : T (non_neg (b -ℤ a)) × Fits w128 (unsigned_abs (b -ℤ a)) =
        (omega (arith, ints), omega (arith, ints)) in
        simp to_z-of_z natural
