use Rattle.lexing.specs.Building.{AddsSteps}
use Rattle.lexing.proofs.states.add_steps.Given as goal

abbrev pub invariant-loop-byte : goal.invariant-loop-byte
invariant-loop-byte l = AddsSteps l.row l.byte l.fn.steps.items l.steps.items
