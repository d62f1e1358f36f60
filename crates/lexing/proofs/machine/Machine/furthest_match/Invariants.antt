use Rattle.std.proofs.Common.{◌≡◌, ◌-◌, ◌/◌, ◌%◌, ◌<◌, length}
use Rattle.std.specs.Str.{IsCharBoundary}
use Rattle.lexing.specs.MachineSteps.{state_count}
use Rattle.lexing.proofs.Furthest.{IsReading}
use Rattle.lexing.proofs.machine.Machine.furthest_match.Given as goal

abbrev pub invariant-loop-at : goal.invariant-loop-at
invariant-loop-at l = record {
  first : l.first % 256 ≡ 0;
  state : l.first / 256 < state_count l.self;
  cut : IsCharBoundary l.text l.at;
  reading : ∥ IsReading l.self l.text (l.first / 256) l.at ∥₁;
}

abbrev pub decreases-loop-at : goal.decreases-loop-at
decreases-loop-at l = length l.text - l.at
