use Rattle.std.proofs.Common.{◌≤◌, ◌-◌, vec_len}
use Rattle.lexing.specs.Lexers.{rules_in}
use Rattle.lexing.specs.Machines.{AreStates}
use Rattle.lexing.specs.Budgets.{AreMet}
use Rattle.state_sets.specs.Found.{AreFound}
use Rattle.lexing.proofs.build.states_of.Given as goal

abbrev pub invariant-loop-alloc : goal.invariant-loop-alloc
invariant-loop-alloc l = record {
  states : AreStates l.lexer l.sets.listed.items l.states;
  few : vec_len l.sets.listed ≤ l.budget;
  met : AreMet (rules_in l.lexer) l.sets.listed.items;
  found : AreFound l.sets;
}

abbrev pub decreases-loop-alloc : goal.decreases-loop-alloc
decreases-loop-alloc l = l.budget - vec_len l.states.rows
