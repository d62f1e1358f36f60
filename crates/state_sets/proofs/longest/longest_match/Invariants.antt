use Rattle.std.proofs.Common.{◌≡◌}
use Rattle.state_sets.specs.Steps.{AreAfter}
use Rattle.state_sets.specs.Tokens.{IsRuleAt}
use Rattle.state_sets.proofs.Best.{IsBest}
use Rattle.state_sets.proofs.Reading.{bytes_of}
use Rattle.state_sets.proofs.longest.longest_match.Given as goal

-- what is read leads to the states, and the longest is that of what is read
abbrev pub invariant-loop-c : goal.invariant-loop-c
invariant-loop-c g l = record {
  after : AreAfter (g.A.Automaton.has_step l.automaton) (g.A.Automaton.is_start l.automaton)
      l.yielded l.states;
  bytes : l.len ≡ bytes_of l.yielded;
  best : IsBest (g.A.Automaton.has_step l.automaton) (g.A.Automaton.is_start l.automaton)
      (IsRuleAt l.rule_at) l.yielded l.longest;
}
