use Rattle.std.proofs.Common.{ℕ, IsTrue}
use Rattle.std.specs.BTreeSet.{contains}
use Rattle.std.specs.Ordering.{nat_cmp}
use Rattle.charmoves.specs.Automata.{rules_of, HasRule}
use Rattle.charmoves.proofs.Gathering.{IsGathered}
use Rattle.charmoves.proofs.moves.Moves.step.Given as goal

abbrev pub invariant-loop-state : goal.invariant-loop-state
invariant-loop-state l = (q : ℕ) → IsGathered (λ p. HasRule (rules_of l.self) p l.c q)
    l.states.keys (IsTrue (contains nat_cmp l.reached q)) l.state-iterator
