use Rattle.std.proofs.Common.{ℕ}
use Rattle.std.specs.BTreeSet.{contains}
use Rattle.std.specs.Ordering.{nat_cmp}
use Rattle.btree_range_map.specs.Characters.{IsCharacter, character_order}
use Rattle.btree_range_map.specs.Multimaps.{IsPairOf}
use Rattle.charmoves.specs.Automata.{rules_of, HasRule}
use Rattle.charmoves.proofs.Gathering.{IsGathered}
use Rattle.charmoves.proofs.moves.Moves.leads.Given as goal

abbrev pub invariant-loop-state : goal.invariant-loop-state
invariant-loop-state l = (c q : ℕ) → IsCharacter c
    → IsGathered (λ p. HasRule (rules_of l.self) p c q) l.states.keys
    (IsPairOf character_order (contains nat_cmp) l.leads c q) l.state-iterator
