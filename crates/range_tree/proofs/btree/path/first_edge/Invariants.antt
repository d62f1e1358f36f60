use Rattle.std.proofs.Common.{false, ◌-◌, ◌^◌}
use Rattle.range_tree.specs.declared.btree.path.TheConstants.{PATH_BASE}
use Rattle.range_tree.proofs.Descending.{Descent}
use Rattle.range_tree.proofs.btree.path.first_edge.Given as goal

abbrev pub invariant-down : goal.invariant-down
invariant-down g l =
    Descent (λ _. false) l.nodes l.below l.number l.left l.leaf 0 (PATH_BASE ^ (l.below - l.left))

abbrev pub decreases-down : goal.decreases-down
decreases-down g l = l.left
