-- Laws of key types that callers cite beside those of `Counted`.
use Rattle.std.specs.Prelude.{ℕ, zero, suc, ◌+◌, ◌≤◌, ◌<◌, ◌↔◌, refl}
use Rattle.std.specs.Cmp.{ranked, nat_cmp_is}
use Rattle.std.specs.Ordering.{is_gt}
use Rattle.std.specs.declared.cmp.Ordering.TheVariants.{Less}
use Rattle.std.proofs.Common.{sym, ap, ◌∙◌, arith, inl, inr, lit<}
use Rattle.std.proofs.lemmas.Bool.{cases_lt}
use Rattle.range_algebra.specs.Extremes.{HasNoLeast, HasNoGreatest}
use Rattle.range_algebra.specs.Range.{Holds, IsKeyless}
use Rattle.range_algebra.specs.declared.any.AnyRange.{AnyRange}
use Rattle.range_keys.specs.Counted.{IsCounted, is_not_above, not_above_is}
use Rattle.range_keys.specs.Order.{KeyOrder, IsMeasure, Below, NotAbove}

-- Every key measures 0: for types of 2^128 keys or more, whose number no `u128` says.
pub zero_measure : {K : Type 0} (order : KeyOrder K) → IsMeasure order (λ _. 0) (λ _ _. 0)
zero_measure order = record {
  len_congr = λ a b p q e. refl;
  itself = λ a b p q e. refl;
  adds = λ a b c p q r f g. refl;
  at_least = λ a b p q l. omega arith;
  step = λ a b e. refl;
  fits = λ a b p q f. lit< tt;
}

module _ {K : Type 0} {order : KeyOrder K} {index : K → ℕ} {size : ℕ}
    (counted : IsCounted order index size) where
  -- counted keys are ordered as their indices are
  pub below_by_index : (a b : K) → order.is_key a → order.is_key b → Below order a b
      ↔ (index a < index b)
  below_by_index a b p q = (
    λ l. ranked (index a) (index b) Less (sym l ∙ counted.by_index a b p q),
    λ h. counted.by_index a b p q ∙ sym (nat_cmp_is (index a) (index b) Less h),
  )

  pub not_above_by_index : (a b : K) → order.is_key a → order.is_key b → NotAbove order a b
      ↔ (index a ≤ index b)
  not_above_by_index a b p q = (
    λ h. not_above_is (index a) (index b) (sym (ap is_gt (counted.by_index a b p q)) ∙ h),
    λ h. ap is_gt (counted.by_index a b p q) ∙ is_not_above (index a) (index b) h,
  )

  holds_none_below : (r : AnyRange K) → HasNoLeast order r → (n : ℕ) → (k : K) → order.is_key k
      → index k < n → ¬ Holds order r k
  holds_none_below r none zero k key low held = omega (arith, low)
  holds_none_below r none (suc n) k key low held =
      none k key (
        held,
        λ j p h.
            elim (cases_lt (index j) (index k)) [
              | inl less ↦ absurd (holds_none_below r none n j p (omega (arith, less, low)) h)
              | inr not ↦ (not_above_by_index k j key p).1 not
            ],
      )

  -- a range that has no least key, or no greatest, has none
  pub keyless_without_least : (r : AnyRange K) → HasNoLeast order r → IsKeyless order r
  keyless_without_least r none k key =
      holds_none_below r none size k key (counted.in_size k key)

  holds_none_above : (r : AnyRange K) → HasNoGreatest order r → (n : ℕ) → (k : K)
      → order.is_key k → size ≤ index k + n → ¬ Holds order r k
  holds_none_above r none zero k key low held = let h = counted.in_size k key in omega (arith, low)
  holds_none_above r none (suc n) k key low held =
      none k key (
        held,
        λ j p h.
            elim (cases_lt (index k) (index j)) [
              | inl less ↦ absurd (holds_none_above r none n j p (omega (arith, less, low)) h)
              | inr not ↦ (not_above_by_index j k p key).1 not
            ],
      )

  pub keyless_without_greatest : (r : AnyRange K) → HasNoGreatest order r → IsKeyless order r
  keyless_without_greatest r none k key = holds_none_above r none size k key (omega arith)
