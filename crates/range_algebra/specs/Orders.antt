-- A total order, by `at most` and `less`.
use Rattle.std.proofs.Common.{◌≡◌, refl, sym, ap, ◌∙◌, false, true, ◌⊎◌, inl, inr}
use Rattle.std.specs.declared.cmp.Ordering.{Ordering}
use Rattle.std.specs.declared.cmp.Ordering.TheVariants.{Less, Equal, Greater}
use Rattle.std.specs.Ordering.{is_gt, is_lt, ordering_reverse}
use Rattle.std.specs.Cmp.{IsTotalOrder, upto, tied_back, tied_itself}
use Rattle.range_algebra.specs.Intervals.{Le, Lt}

reverse_not_greater : (o : Ordering) → is_gt o ≡ false → ordering_reverse o ≡ Less → ⊥
reverse_not_greater Less h e = cc
reverse_not_greater Equal h e = cc
reverse_not_greater Greater h e = cc

pub lt_of : (o : Ordering) → is_lt o ≡ true → o ≡ Less
lt_of Less h = refl
lt_of Equal h = cc
lt_of Greater h = cc

module _ {L : Type 0} (cmp : L → L → Ordering) (total : IsTotalOrder cmp) where
  pub le_refl : (p : L) → Le cmp p p
  le_refl p = ap is_gt (tied_itself total p)

  pub lt_le : (p q : L) → Lt cmp p q → Le cmp p q
  lt_le p q h = ap is_gt h

  pub eq_le : (p q : L) → cmp p q ≡ Equal → Le cmp p q
  eq_le p q h = ap is_gt h

  pub eq_ge : (p q : L) → cmp p q ≡ Equal → Le cmp q p
  eq_ge p q h = ap is_gt (tied_back total p q h)

  pub le_trans : (p q r : L) → Le cmp p q → Le cmp q r → Le cmp p r
  le_trans p q r h k = upto total p q r h k

  pub lt_not_le : (p q : L) → Lt cmp p q → Le cmp q p → ⊥
  lt_not_le p q h k = reverse_not_greater (cmp q p) k (sym (total.antisymm p q) ∙ h)

  cases_by : (p q : L) (o : Ordering) → cmp p q ≡ o → Lt cmp p q ⊎ Le cmp q p
  cases_by p q Less e = inl e
  cases_by p q Equal e = inr (eq_ge p q e)
  cases_by p q Greater e = inr (ap is_gt (total.antisymm q p ∙ ap ordering_reverse e))

  pub cases : (p q : L) → Lt cmp p q ⊎ Le cmp q p
  cases p q = cases_by p q (cmp p q) refl

  not_le_by : (p q : L) → (Le cmp q p → ⊥) → Lt cmp p q ⊎ Le cmp q p → Lt cmp p q
  not_le_by p q h (inl l) = l
  not_le_by p q h (inr g) = absurd (h g)

  pub not_le : (p q : L) → (Le cmp q p → ⊥) → Lt cmp p q
  not_le p q h = not_le_by p q h (cases p q)

  not_lt_by : (p q : L) → (Lt cmp q p → ⊥) → Lt cmp q p ⊎ Le cmp p q → Le cmp p q
  not_lt_by p q h (inl l) = absurd (h l)
  not_lt_by p q h (inr g) = g

  pub not_lt : (p q : L) → (Lt cmp q p → ⊥) → Le cmp p q
  not_lt p q h = not_lt_by p q h (cases q p)

  pub lt_le_trans : (p q r : L) → Lt cmp p q → Le cmp q r → Lt cmp p r
  lt_le_trans p q r h k = not_le p r (λ g. lt_not_le p q h (le_trans q r p k g))

  pub le_lt_trans : (p q r : L) → Le cmp p q → Lt cmp q r → Lt cmp p r
  le_lt_trans p q r h k = not_le p r (λ g. lt_not_le q r k (le_trans r p q g h))

  pub lt_trans : (p q r : L) → Lt cmp p q → Lt cmp q r → Lt cmp p r
  lt_trans p q r h k = total.trans p q r h k

  both_by : (p q : L) (o : Ordering) → cmp p q ≡ o → Le cmp p q → Le cmp q p → cmp p q ≡ Equal
  both_by p q Less e h k = absurd (lt_not_le p q e k)
  both_by p q Equal e h k = e
  both_by p q Greater e h k =
      absurd (reverse_not_greater (cmp p q) h
      (sym (total.antisymm q p) ∙ (total.antisymm q p ∙ ap ordering_reverse e)))

  pub both : (p q : L) → Le cmp p q → Le cmp q p → cmp p q ≡ Equal
  both p q h k = both_by p q (cmp p q) refl h k
