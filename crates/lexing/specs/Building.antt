-- Sets of states in the making.
use Rattle.std.specs.Prelude.{◌≡◌, ℕ, ◌+◌, ◌<◌, List, [], ◌∷◌, length, Some, slice_get}
use Rattle.std.specs.BTreeSet.{BTreeSet}
use Rattle.lexing.specs.declared.step.Step.{Step}
use Rattle.state_sets.specs.Listed.{KeepsAll}
use Rattle.charmoves.specs.declared.rules.Rules.{Rules}
use Rattle.charmoves.specs.Automata.{AreStarts}
use Rattle.lexing.specs.Machines.{Row, IsRowOf, IsStepOf}

-- the one set is that of the start states
abbrev pub AreFirst : Rules → List (BTreeSet ℕ) → Type 0
AreFirst rules sets = (set : BTreeSet ℕ) × (sets ≡ set ∷ []) × AreStarts rules set

-- the row is that of the set which stood at the index, over the sets of after
abbrev pub IsRowAt : Rules → List (BTreeSet ℕ) → List (BTreeSet ℕ) → ℕ → Row → Type 0
IsRowAt rules before after at row =
    (set : BTreeSet ℕ) → slice_get before at ≡ Some set → IsRowOf rules after set row

-- behind the list stand the steps of the first bytes by the row
abbrev pub AddsSteps : Row → ℕ → List Step → List Step → Type 0
AddsSteps row count before after = KeepsAll before after
    × (length after ≡ length before + count)
    × ((byte : ℕ) (step : Step) → byte < count
    → slice_get after (length before + byte) ≡ Some step → IsStepOf row byte step)
