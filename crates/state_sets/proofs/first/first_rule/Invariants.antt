use Rattle.state_sets.proofs.Firsts.{IsFirstSoFar}
use Rattle.state_sets.proofs.first.first_rule.Given as goal

abbrev pub invariant-loop-state : goal.invariant-loop-state
invariant-loop-state l = IsFirstSoFar l.rule_at l.states.keys l.first l.state-iterator
