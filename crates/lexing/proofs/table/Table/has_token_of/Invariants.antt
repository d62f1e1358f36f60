use Rattle.std.proofs.Common.{◌≡◌, ℕ, ◌<◌, Some}
use Rattle.std.specs.List.{slice_get}
use Rattle.lexing.specs.declared.table.TableState.{TableState}
use Rattle.lexing.specs.Tables.{LeadsToRuleFrom}
use Rattle.lexing.proofs.table.Table.has_token_of.Given as goal

abbrev pub invariant-loop-at : goal.invariant-loop-at
invariant-loop-at l = (i : ℕ) (state : TableState) → i < l.at
    → slice_get l.self.states.items i ≡ Some state
    → ¬ LeadsToRuleFrom l.self.states.items l.rule state.leads.items
