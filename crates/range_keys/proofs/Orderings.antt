-- What a test of an ordering says of it, and what the first unless it is `Equal`, and then the
-- second, says of both.
use Rattle.std.proofs.Common.{◌≡◌, ◌↔◌, ◌⊎◌, refl, inl, inr, true, false}
use Rattle.std.specs.declared.cmp.Ordering.{Ordering}
use Rattle.std.specs.declared.cmp.Ordering.TheVariants.{Less, Equal, Greater}
use Rattle.std.specs.Ordering.{is_eq, is_lt, is_gt, ordering_then}

pub not_greater : (o : Ordering) → (o ≡ Greater → ⊥) → is_gt o ≡ false
not_greater Less h = refl
not_greater Equal h = refl
not_greater Greater h = absurd (h refl)

pub not_both_greater_and_not : (o : Ordering) → is_gt o ≡ false → o ≡ Greater → ⊥
not_both_greater_and_not Less h e = cc
not_both_greater_and_not Equal h e = cc
not_both_greater_and_not Greater h e = cc

pub gt_is_greater : (o : Ordering) → is_gt o ≡ true → o ≡ Greater
gt_is_greater Less h = cc
gt_is_greater Equal h = cc
gt_is_greater Greater h = refl

pub lt_is_less : (o : Ordering) → is_lt o ≡ true ↔ o ≡ Less
lt_is_less Less = (λ _. refl, λ _. refl)
lt_is_less Equal = (λ e. cc, λ e. cc)
lt_is_less Greater = (λ e. cc, λ e. cc)

pub eq_is_equal : (o : Ordering) → is_eq o ≡ true ↔ o ≡ Equal
eq_is_equal Less = (λ e. cc, λ e. cc)
eq_is_equal Equal = (λ _. refl, λ _. refl)
eq_is_equal Greater = (λ e. cc, λ e. cc)

pub less_or_not : (o : Ordering) → (o ≡ Less) ⊎ (o ≡ Less → ⊥)
less_or_not Less = inl refl
less_or_not Equal = inr (λ h. cc)
less_or_not Greater = inr (λ h. cc)

pub greater_or_not : (o : Ordering) → (o ≡ Greater) ⊎ (o ≡ Greater → ⊥)
greater_or_not Less = inr (λ h. cc)
greater_or_not Equal = inr (λ h. cc)
greater_or_not Greater = inl refl

pub not_not_less : (o : Ordering) → ((o ≡ Less → ⊥) → ⊥) → o ≡ Less
not_not_less Less h = refl
not_not_less Equal h = absurd (h (λ e. cc))
not_not_less Greater h = absurd (h (λ e. cc))

-- where the first is known
pub less_then_any : (o p : Ordering) → o ≡ Less → ordering_then o p ≡ Less
less_then_any o p e = rw e refl

pub equal_then_equal : (o p : Ordering) → o ≡ Equal → p ≡ Equal → ordering_then o p ≡ Equal
equal_then_equal o p e f = rw (e, f) refl

-- where the second is known
pub any_then_equal : (o : Ordering) → ordering_then o Equal ≡ o
any_then_equal Less = refl
any_then_equal Equal = refl
any_then_equal Greater = refl

pub less_unless_equal : (o : Ordering) → ordering_then o Equal ≡ Less → o ≡ Less
less_unless_equal Less h = refl
less_unless_equal Equal h = cc
less_unless_equal Greater h = cc

pub not_greater_unless_equal : (o : Ordering) → is_gt (ordering_then o Equal) ≡ false
    → is_gt o ≡ false
not_greater_unless_equal Less h = h
not_greater_unless_equal Equal h = h
not_greater_unless_equal Greater h = h

pub less_unless_greater : (o : Ordering) → ordering_then o Greater ≡ Less ↔ o ≡ Less
less_unless_greater Less = (λ _. refl, λ _. refl)
less_unless_greater Equal = (λ e. cc, λ e. cc)
less_unless_greater Greater = (λ e. cc, λ e. cc)

pub not_greater_unless_greater : (o : Ordering) → is_gt (ordering_then o Greater) ≡ false ↔ o ≡ Less
not_greater_unless_greater Less = (λ _. refl, λ _. refl)
not_greater_unless_greater Equal = (λ e. cc, λ e. cc)
not_greater_unless_greater Greater = (λ e. cc, λ e. cc)

pub less_unless_less : (o : Ordering) → ordering_then o Less ≡ Less ↔ is_gt o ≡ false
less_unless_less Less = (λ _. refl, λ _. refl)
less_unless_less Equal = (λ _. refl, λ _. refl)
less_unless_less Greater = (λ e. cc, λ e. cc)

-- where the result is known
pub both_equal : (o p : Ordering) → ordering_then o p ≡ Equal → (o ≡ Equal) × (p ≡ Equal)
both_equal Less p h = cc
both_equal Equal p h = (refl, h)
both_equal Greater p h = cc
