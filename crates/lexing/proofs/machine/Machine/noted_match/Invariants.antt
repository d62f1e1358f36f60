use Rattle.std.proofs.Common.{◌≡◌, ◌<◌}
use Rattle.state_sets.proofs.Reading.{bytes_of}
use Rattle.lexing.specs.MachineSteps.{state_count}
use Rattle.lexing.proofs.Running.{IsRunning}
use Rattle.lexing.proofs.machine.Machine.noted_match.Given as goal

-- the state stands for the states that what is read leads to, and the longest is that of what is
-- read
abbrev pub invariant-loop-c : goal.invariant-loop-c
invariant-loop-c l = record {
  state : l.state < state_count l.self;
  bytes : l.len ≡ bytes_of l.yielded;
  running : ∥ IsRunning l.self l.yielded l.state l.longest ∥₁;
}
