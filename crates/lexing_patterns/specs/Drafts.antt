-- The automata of several rules, side by side.
use Rattle.std.specs.Prelude.{◌≡◌, ℕ, ◌+◌, ◌<◌, List, length, Some, slice_get}
use Rattle.std.specs.List.{AllByRecursion}
use Rattle.regex_hir.specs.Re.{Re}
use Rattle.lexing_patterns.specs.declared.part.Edge.{Edge}
use Rattle.lexing_patterns.specs.declared.draft.End.{End}
use Rattle.lexing_patterns.specs.declared.draft.Draft.{Draft}
use Rattle.lexing_patterns.specs.Languages.{IsLanguage}
use Rattle.lexing_classes.specs.Leads.{AnyOf}
use Rattle.lexing_patterns.specs.Leaves.{IsTaken}
use Rattle.lexing_patterns.specs.Parts.{HasEdge, IsAmong, Path}
use Rattle.lexing_patterns.specs.Sizes.{step_budget, total_steps}

-- a text of the rule may end in the state
abbrev pub HasEnd : List End → ℕ → ℕ → Type 0
HasEnd ends q rule = AnyOf (λ end. (q ≡ end.state) × (rule ≡ end.rule)) ends

-- texts of one rule alone end in a state
abbrev pub EndsAtOne : List End → Type 0
EndsAtOne ends = (q r s : ℕ) → HasEnd ends q r → HasEnd ends q s → r ≡ s

-- a path from a start state to an end of the rule
abbrev pub DraftReads : List Edge → List ℕ → List End → ℕ → List ℕ → Type 0
DraftReads edges starts ends rule w = (p : ℕ) × (q : ℕ) × IsAmong p starts × Path (HasEdge edges) p w q
    × HasEnd ends q rule

-- the automata of these patterns, one for each rule, with the states below next
pub record AreDrafted (edges : List Edge) (starts : List ℕ) (ends : List End) (next : ℕ)
    (res : List Re) : Type 0 where
  pub edges_below : (p c q : ℕ) → HasEdge edges p c q → (p < next) × (q < next)
  pub starts_below : (p : ℕ) → IsAmong p starts → p < next
  pub ends_below : (q r : ℕ) → HasEnd ends q r → (q < next) × (r < length res)
  pub ends_at_one : EndsAtOne ends
  pub languages : (r : ℕ) (re : Re) → slice_get res r ≡ Some re
      → IsLanguage re (DraftReads edges starts ends r)

-- these patterns are taken, and the rest of the budget is left
pub record IsDraft (draft : Draft) (res : List Re) : Type 0 where
  pub automata : AreDrafted draft.edges.items draft.starts.items draft.ends.items
      draft.builder.next res
  pub taken : AllByRecursion IsTaken res
  pub spent : draft.builder.budget + total_steps res ≡ step_budget
