-- How many states a machine has to have.
use Rattle.std.specs.Prelude.{◌≡◌, ℕ, ◌<◌, List, length, Some, slice_get, ⊤}
use Rattle.std.specs.BTreeSet.{BTreeSet}
use Rattle.state_sets.specs.Listed.{HaveSameStates}
use Rattle.state_sets.specs.Steps.{AreAfter}
use Rattle.charmoves.specs.declared.rules.Rules.{Rules}
use Rattle.charmoves.specs.Automata.{HasRule, IsStart}
use Rattle.lexing.specs.declared.error.BuildError.{BuildError}
use Rattle.lexing.specs.declared.error.BuildError.TheVariants.{TooLarge, Memory}

module _ (rules : Rules) where
  -- the states are those to which some text leads from the start states
  abbrev pub IsReached : BTreeSet ℕ → Type 0
  IsReached states = (text : List ℕ) × AreAfter (HasRule rules) (IsStart rules) text states

  -- texts lead to each of the sets, and no two of them have the same states
  pub record AreMet (sets : List (BTreeSet ℕ)) : Type 0 where
    pub reached : (i : ℕ) (set : BTreeSet ℕ) → slice_get sets i ≡ Some set → IsReached set
    pub unlike : (i j : ℕ) (set other : BTreeSet ℕ) → i < j → slice_get sets i ≡ Some set
        → slice_get sets j ≡ Some other → ¬ HaveSameStates set other

  -- why no machine was built: there are more such sets than the budget, or an allocation failed
  abbrev pub IsBuildReason : ℕ → BuildError → Type 0
  IsBuildReason budget TooLarge =
      (sets : List (BTreeSet ℕ)) × AreMet sets × (budget < length sets)
  IsBuildReason budget Memory = ⊤
