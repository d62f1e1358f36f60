use Rattle.state_sets.specs.Steps.{AreAfter}
use Rattle.state_sets.proofs.automaton.follow.Given as goal

-- what is read leads to the states
abbrev pub invariant-loop-c : goal.invariant-loop-c
invariant-loop-c g l = AreAfter (g.A.Automaton.has_step l.automaton)
    (g.A.Automaton.is_start l.automaton) l.yielded l.states
