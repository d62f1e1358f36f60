-- What is gathered from a list of states, one state after the other.
use Rattle.std.proofs.Common.{◌≡◌, ◌↔◌, ◌⊎◌, ℕ, Bool, ◌||◌, IsTrue, List, [], ◌∷◌, arith}
use Rattle.std.proofs.lemmas.Bool.Decides.{nat_tests}
use Rattle.state_sets.proofs.Firsts.{IsIn}

module _ (ComesFrom : ℕ → Type 0) (states : List ℕ) where
  abbrev pub ComesFromOne : List ℕ → Type 0
  ComesFromOne states = (p : ℕ) × IsIn states p × ComesFrom p

  -- what is gathered, and what comes from the states that are left, is what comes from all
  abbrev pub IsGathered : Type 0 → List ℕ → Type 0
  IsGathered Gathered left = (Gathered ⊎ ComesFromOne left) ↔ ComesFromOne states

  pub gathered_more : (Before After : Type 0) (p : ℕ) (rest left : List ℕ) → left ≡ p ∷ rest
      → (After ↔ (Before ⊎ ComesFrom p)) → IsGathered Before left → IsGathered After rest
  gathered_more Before After p rest left turn more was = grind (arith, nat_tests)

  pub gathered_all : (Gathered : Type 0) (left : List ℕ) → left ≡ [] → IsGathered Gathered left
      → Gathered ↔ ComesFromOne states
  gathered_all Gathered left none was = grind arith

pub also_targets : {From : Type 0} (before after targets : Bool) → (From ↔ IsTrue targets)
    → after ≡ (before || targets) → IsTrue after ↔ (IsTrue before ⊎ From)
also_targets before after targets led grown = grind arith
