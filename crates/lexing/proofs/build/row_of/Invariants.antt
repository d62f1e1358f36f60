use Rattle.std.proofs.Common.{◌≤◌, vec_len, length}
use Rattle.lexing.specs.Lexers.{rules_in}
use Rattle.state_sets.specs.Listed.{KeepsAll}
use Rattle.lexing.specs.Budgets.{AreMet}
use Rattle.state_sets.specs.Found.{AreFound}
use Rattle.lexing.proofs.Rows.{IsRowSoFar}
use Rattle.lexing.proofs.build.row_of.Given as goal

abbrev pub invariant-loop-range : goal.invariant-loop-range
invariant-loop-range l = record {
  kept : KeepsAll l.fn.sets.listed.items l.sets.listed.items;
  longer : vec_len l.fn.sets.listed ≤ vec_len l.sets.listed;
  few : vec_len l.sets.listed ≤ l.budget;
  met : AreMet (rules_in l.lexer) l.sets.listed.items;
  found : AreFound l.sets;
  row : IsRowSoFar l.sets.listed.items l.initial.entries l.row l.entries;
}

abbrev pub decreases-loop-range : goal.decreases-loop-range
decreases-loop-range l = length l.entries
