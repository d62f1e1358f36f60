use Rattle.std.proofs.Common.{true}
use Rattle.range_tree.proofs.Descending.{Descent}
use Rattle.range_tree.proofs.btree.path.end_edge.Given as goal

abbrev pub invariant-down : goal.invariant-down
invariant-down g l =
    Descent (λ _. true) l.nodes l.below l.number l.left l.leaf l.path l.weight

abbrev pub decreases-down : goal.decreases-down
decreases-down g l = l.left
