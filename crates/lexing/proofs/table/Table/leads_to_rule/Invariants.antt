use Rattle.std.proofs.Common.{◌≡◌, ℕ, ◌<◌, Some}
use Rattle.std.specs.List.{slice_get}
use Rattle.lexing.specs.declared.table.Lead.{Lead}
use Rattle.lexing.specs.Tables.{rule_at}
use Rattle.lexing.proofs.table.Table.leads_to_rule.Given as goal

abbrev pub invariant-loop-at : goal.invariant-loop-at
invariant-loop-at l = (i : ℕ) (lead : Lead) → i < l.at
    → slice_get l.from.leads.items i ≡ Some lead
    → ¬ (rule_at l.self.states.items (Some lead.next) ≡ Some l.rule)
