-- The steps of several patterns together.
use Rattle.std.proofs.Common.{◌≡◌, inl, inr, ℕ, ◌<◌, ◌+◌, ◌≤◌, List, [], ◌∷◌, ◌++◌, length, arith}
use Rattle.std.specs.List.{AllByRecursion}
use Rattle.regex_hir.specs.Re.{Re}
use Rattle.lexing_patterns.specs.declared.error.PatternError.{PatternError}
use Rattle.lexing_patterns.specs.declared.error.PatternError.TheVariants.{Syntax, Assertion, NotText, TooLarge, Memory}
use Rattle.lexing_patterns.specs.Faults.{IsFault, IsFaultBehind, IsFaultIn, IsTooMuch}
use Rattle.lexing_patterns.specs.Leaves.{IsTaken}
use Rattle.lexing_patterns.specs.Patterns.{IsReadAs}
use Rattle.lexing_patterns.specs.Sizes.{step_budget, step_count, total_steps}

pub total_pushed : (res : List Re) (re : Re)
    → total_steps (res ++ re ∷ []) ≡ total_steps res + step_count re + 1
total_pushed [] re = omega arith
total_pushed (x ∷ res) re = omega (arith, total_pushed res re)

pub all_pushed : (res : List Re) (re : Re) → AllByRecursion IsTaken res → IsTaken re
    → AllByRecursion IsTaken (res ++ re ∷ [])
all_pushed [] re all is = (is, tt)
all_pushed (x ∷ res) re all is = (all.0, all_pushed res re all.1 is)

-- each pattern takes a step
pub no_more_rules : (res : List Re) → length res ≤ total_steps res
no_more_rules [] = omega arith
no_more_rules (x ∷ res) = omega (arith, no_more_rules res)

-- what is left for a pattern is too little behind those before it
module _ (budget : ℕ) (before : List Re) (re : Re)
    (spent : budget + total_steps before ≡ step_budget) where
  pub fault_behind : (error : PatternError) → IsFaultIn budget re error
      → IsFaultBehind before re error
  fault_behind (Syntax fault) is = is
  fault_behind Assertion is = is
  fault_behind NotText is = is
  fault_behind TooLarge is = omega (arith, is, spent, total_pushed before re)
  fault_behind Memory is = tt

pub start_behind : (budget between : ℕ) (before : List Re) (re : Re)
    → budget + total_steps before ≡ step_budget → budget ≡ between + step_count re
    → (error : PatternError) → IsTooMuch between 1 error → IsFaultBehind before re error
start_behind budget between before re spent made error (inl (is, less)) =
    rw is (omega (arith, less, spent, made, total_pushed before re))
start_behind budget between before re spent made error (inr is) = rw is tt

pub fault_read : (before : List Re) (pattern : List ℕ) (re : Re) → IsReadAs pattern re
    → (error : PatternError) → IsFaultBehind before re error → IsFault before pattern error
fault_read before pattern re read (Syntax fault) is = absurd is
fault_read before pattern re read Assertion is = (re, read, is)
fault_read before pattern re read NotText is = (re, read, is)
fault_read before pattern re read TooLarge is = (re, read, is)
fault_read before pattern re read Memory is = tt
