use Rattle.std.proofs.Common.{◌≡◌}
use Rattle.charmoves.specs.Automata.{rules_of, HasRule, IsStart, Accepts}
use Rattle.state_sets.specs.Steps.{AreAfter}
use Rattle.state_sets.proofs.Reading.{bytes_of}
use Rattle.charmoves.proofs.LongestFronts.{IsLongestFront}
use Rattle.charmoves.proofs.moves.Moves.longest.Given as goal

-- what is read leads to the states, and the longest is that of what is read
abbrev pub invariant-loop-c : goal.invariant-loop-c
invariant-loop-c l = record {
  after : AreAfter (HasRule (rules_of l.self)) (IsStart (rules_of l.self)) l.yielded l.states;
  bytes : l.len ≡ bytes_of l.yielded;
  best : IsLongestFront (Accepts (rules_of l.self)) l.yielded l.longest;
}
