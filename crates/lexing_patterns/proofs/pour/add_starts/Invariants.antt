use Rattle.std.proofs.Common.{ℕ, ◌↔◌, ◌⊎◌, take}
use Rattle.charmoves.specs.Automata.{IsStart, KeepsRules}
use Rattle.lexing_patterns.specs.Parts.{IsAmong}
use Rattle.lexing_patterns.proofs.pour.add_starts.Given as goal

abbrev pub invariant-loop-state : goal.invariant-loop-state
invariant-loop-state l = record {
  starts : (p : ℕ) → IsStart l.rules p
      ↔ (IsStart l.initial.rules p ⊎ IsAmong p (take l.state-index l.states));
  rules : KeepsRules l.initial.rules l.rules;
}
