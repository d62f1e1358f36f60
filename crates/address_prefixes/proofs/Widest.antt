-- The widest block of numbers at its place.
use Rattle.std.proofs.Common.{◌≡◌, ℕ, zero, suc, ◌+◌, ◌/◌, ◌%◌, ◌^◌, ◌≤◌, ◌<◌, Bool, true, false, ◌==◌, ap, ◌∙◌, arith}
use Rattle.std.specs.Bool.{Decides}
use Rattle.std.proofs.Math.Nat.{mul-mod_left, div-add-mod'}
use Rattle.std.proofs.lemmas.Bool.{cases_lt}
use Rattle.std.proofs.lemmas.Bool.Decides.{nat_tests}
use Rattle.address_prefixes.specs.Prefixes.{IsAligned}
use Rattle.address_prefixes.specs.Tiles.{fits, widest}

aligned_is : (k from : ℕ) → Decides (from % 2 ^ k == 0) (IsAligned from k)
aligned_is k from = (
  λ e. let zero_left : from % 2 ^ k ≡ 0 = grind (arith, nat_tests) in
      (from / 2 ^ k, let whole = div-add-mod' from (2 ^ k) in omega (arith, whole, zero_left)),
  λ h. let none : from % 2 ^ k ≡ 0 = ap (λ n. n % 2 ^ k) h.1 ∙ mul-mod_left h.0 (2 ^ k) in
      grind (arith, nat_tests),
)

pub fits_is : (k from past : ℕ) → Decides (fits k from past) (IsAligned from k × (from + 2 ^ k ≤ past))
unfolding fits
fits_is k from past = grind (arith, aligned_is)

-- what the greatest such k comes to
pub record IsGreatest (bound from past k : ℕ) : Type 0 where
  pub bounded : k ≤ bound
  pub aligned : IsAligned from k
  pub inside : from + 2 ^ k ≤ past
  pub greatest : (j : ℕ) → j ≤ bound → IsAligned from j → from + 2 ^ j ≤ past → j ≤ k

abbrev IsGreatestHere : ℕ → ℕ → ℕ → Type 0
IsGreatestHere bound from past = IsGreatest bound from past (widest bound from past)

one_more : (k from past : ℕ) (t : Bool) → fits (suc k) from past ≡ t
    → IsGreatestHere k from past → IsGreatestHere (suc k) from past
unfolding widest
one_more k from past true e less = grind (arith, fits_is)
one_more k from past false e less = grind (arith, cases_lt, fits_is)

pub widest_is : (bound from past : ℕ) → from < past → IsGreatestHere bound from past
unfolding widest
widest_is zero from past h =
    record {
      bounded = omega arith;
      aligned = (from, omega arith);
      inside = omega arith;
      greatest = λ j small a i. small;
    }
widest_is (suc k) from past h = grind (arith, one_more, widest_is k from past h)
