-- Paths along a list of characters in two parts, and the states that are reached at its end.
use Rattle.std.proofs.Common.{◌≡◌, ◌↔◌, ℕ, IsTrue, List, [], ◌∷◌, ◌++◌, BTreeSet, arith}
use Rattle.std.specs.Ordering.{nat_cmp}
use Rattle.std.specs.BTreeSet.{contains, btree_set_len}
use Rattle.std.proofs.lemmas.Grind.{common_steps}
use Rattle.state_sets.specs.Steps.{AreStarts, AreReached, AreAfter, LeadsTo}

module _ (HasStep : ℕ → ℕ → ℕ → Type 0) where
  -- a path along two parts goes along the first and then along the second
  pub path_in_parts : (xs ys : List ℕ) (p q : ℕ) → LeadsTo HasStep p (xs ++ ys) q
      ↔ (s : ℕ) × LeadsTo HasStep p xs s × LeadsTo HasStep s ys q
  path_in_parts [] ys p q = grind arith
  path_in_parts (x ∷ xs) ys p q = grind (arith, path_in_parts xs ys)

  pub leads_nowhere : (states reached : BTreeSet ℕ) (c : ℕ) → AreReached HasStep states c reached
      → btree_set_len reached ≡ 0
      → (p q : ℕ) → IsTrue (contains nat_cmp states p) → ¬ HasStep p c q
  leads_nowhere states reached c are none p q has step = grind (arith, common_steps, are q)

  module _ (IsStart : ℕ → Type 0) where
    pub after_none : (states : BTreeSet ℕ) → AreStarts IsStart states
        → AreAfter HasStep IsStart [] states
    after_none states starts q = grind (arith, starts q)

    pub after_more : (front : List ℕ) (states next : BTreeSet ℕ) (c : ℕ)
        → AreAfter HasStep IsStart front states → AreReached HasStep states c next
        → AreAfter HasStep IsStart (front ++ c ∷ []) next
    after_more front states next c before reached q =
        let parts = path_in_parts front (c ∷ []) in grind arith
