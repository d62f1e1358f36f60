use Rattle.std.specs.BTreeMap.{btree_map_len}
use Rattle.charmoves.proofs.rules.Rules.drop.Given as goal

abbrev pub decreases-loop-of_state : goal.decreases-loop-of_state
decreases-loop-of_state l = btree_map_len l.transitions
