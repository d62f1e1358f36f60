use Rattle.std.proofs.Common.{◌<◌}
use Rattle.lexing.specs.MachineSteps.{state_count}
use Rattle.lexing.proofs.Running.{IsThere}
use Rattle.lexing.proofs.machine.Machine.leads_on.Given as goal

-- the state stands for the states that what is read leads to
abbrev pub invariant-loop-c : goal.invariant-loop-c
invariant-loop-c l = record {
  state : l.state < state_count l.self;
  there : ∥ IsThere l.self l.yielded l.state ∥₁;
}
