use Rattle.std.proofs.Common.{◌≡◌, length}
use Rattle.lexing.proofs.Tables.{AreTableStates}
use Rattle.lexing.proofs.machine.Machine.table.Given as goal

abbrev pub invariant-loop-at : goal.invariant-loop-at
invariant-loop-at l = record {
  count : length l.states.items ≡ l.at;
  are : AreTableStates l.self.states l.states.items;
}
