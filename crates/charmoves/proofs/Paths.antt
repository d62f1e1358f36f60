-- Whether one of the states accepts, and what texts lead to.
use Rattle.std.proofs.Common.{◌≡◌, ◌↔◌, ◌⊎◌, ℕ, Bool, false, not, IsTrue, List, [], ◌∷◌, ◌++◌, BTreeSet, arith}
use Rattle.std.specs.Ordering.{nat_cmp}
use Rattle.std.specs.BTreeSet.{contains, IsDisjoint}
use Rattle.std.proofs.lemmas.Bool.{cases_Bool}
use Rattle.std.proofs.lemmas.Bool.Decides.{nat_tests}
use Rattle.state_sets.specs.Steps.{AreAfter}
use Rattle.state_sets.proofs.Firsts.{IsIn}
use Rattle.state_sets.proofs.Leading.{path_in_parts}
use Rattle.charmoves.specs.declared.rules.Rules.{Rules}
use Rattle.charmoves.specs.Automata.{HasRule, IsStart, AcceptsAmong, Accepts}

shared_or_none : (others : BTreeSet ℕ) (ks : List ℕ)
    → ((p : ℕ) × IsIn ks p × IsTrue (contains nat_cmp others p))
    ⊎ ((p : ℕ) → IsIn ks p → contains nat_cmp others p ≡ false)
shared_or_none others [] = grind arith
shared_or_none others (k ∷ ks) =
    grind (arith, nat_tests, cases_Bool (contains nat_cmp others k), shared_or_none others ks)

-- a text may end in one of the states where they and the accepting ones share one
pub accepting_shared : (rules : Rules) (states : BTreeSet ℕ) (disjoint : Bool) → IsTrue disjoint
    ↔ IsDisjoint nat_cmp states rules.accepting → IsTrue (not disjoint)
    ↔ AcceptsAmong rules states
accepting_shared rules states disjoint told =
    grind (arith, shared_or_none rules.accepting states.keys)

module _ (rules : Rules) (front : List ℕ) (states : BTreeSet ℕ)
    (after : AreAfter (HasRule rules) (IsStart rules) front states) where
  -- the text so far is accepted where one of the states accepts
  pub accepted_among : AcceptsAmong rules states ↔ Accepts rules front
  accepted_among = (λ h. grind (arith, after h.0), λ h. grind (arith, after h.1))

  -- where nothing leads on by the next character, nothing that goes on with it is accepted
  pub never_through : (c : ℕ)
      → ((p q : ℕ) → IsTrue (contains nat_cmp states p) → ¬ HasRule rules p c q)
      → (more : List ℕ) → ¬ Accepts rules (front ++ c ∷ more)
  never_through c none more h =
      grind (arith, after, path_in_parts (HasRule rules) front (c ∷ more) h.0 h.1)
