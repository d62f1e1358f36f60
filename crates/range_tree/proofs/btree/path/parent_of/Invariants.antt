use Rattle.range_tree.proofs.Parents.{IsOver}
use Rattle.range_tree.proofs.btree.path.parent_of.Given as goal

abbrev pub invariant-down : goal.invariant-down
invariant-down g l = IsOver l.nodes l.below l.number l.fn.edge l.left l.node l.weight l.inner

abbrev pub decreases-down : goal.decreases-down
decreases-down g l = l.left
