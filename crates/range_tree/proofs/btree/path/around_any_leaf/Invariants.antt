use Rattle.range_tree.proofs.Behind.{HasHome, IsOnTheWay, leaf_end}
use Rattle.range_tree.proofs.btree.path.around_any_leaf.Given as goal

abbrev pub invariant-down : goal.invariant-down
invariant-down g l =
    record {
      way : IsOnTheWay l.nodes l.below l.number (leaf_end l.nodes l.fn.edge) l.left l.at l.path
          l.weight (leaf_end l.nodes l.inner) l.behind;
      home : HasHome l.nodes l.below l.number l.fn.edge l.left l.at l.inner l.home;
    }

abbrev pub decreases-down : goal.decreases-down
decreases-down g l = l.left
