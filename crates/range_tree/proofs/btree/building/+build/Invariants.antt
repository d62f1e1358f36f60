use Rattle.std.proofs.Common.{◌≡◌, ◌+◌, ◌-◌, ◌*◌, ◌≤◌, ◌++◌, suc, length}
use Rattle.std.specs.Vec.Iter.{into_iter_items}
use Rattle.range_tree.specs.Building.{IsBuilt}
use Rattle.range_nodes.specs.Heap.{node_count}
use Rattle.range_tree.specs.Nodes.{items_below}
use Rattle.range_nodes.specs.declared.nodes.TheConstants.{CAPACITY, MIN_LEN}
use Rattle.range_tree.proofs.Shares.{CanBeShared}
use Rattle.range_tree.proofs.btree.building.+build.Given as goal

abbrev pub invariant-loop-index : goal.invariant-loop-index
invariant-loop-index g l =
    record {
      built : IsBuilt l.fn.nodes l.nodes l.below l.number l.index;
      listed : into_iter_items l.fn.items
          ≡ items_below l.nodes (suc l.below) l.number ++ into_iter_items l.items;
      size : length (items_below l.nodes (suc l.below) l.number) + (l.rest + (l.many - l.index))
          ≡ l.count;
      shares : CanBeShared l.rest (l.many - l.index) (MIN_LEN * l.inner)
          ((CAPACITY + 1) * l.inner);
      room : MIN_LEN * node_count l.nodes + l.rest + 1 ≤ MIN_LEN * l.nodes.capacity + MIN_LEN;
    }

abbrev pub decreases-build : goal.decreases-build
decreases-build g l = l.below
