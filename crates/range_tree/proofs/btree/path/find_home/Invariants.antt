use Rattle.range_nodes.specs.declared.nodes.TheConstants.{CAPACITY}
use Rattle.range_tree.specs.Nodes.{ShapedBut}
use Rattle.range_tree.proofs.Behind.{HasHome}
use Rattle.range_tree.proofs.btree.path.find_home.Given as goal

abbrev pub invariant-down : goal.invariant-down
invariant-down g l =
    record {
      shaped : ShapedBut 1 CAPACITY l.nodes l.left l.at;
      home : HasHome l.nodes l.below l.number l.fn.edge l.left l.at l.inner l.home;
    }

abbrev pub decreases-down : goal.decreases-down
decreases-down g l = l.left
