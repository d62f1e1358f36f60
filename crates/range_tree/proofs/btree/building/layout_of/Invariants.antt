use Rattle.std.proofs.Common.{◌≡◌, ◌+◌, ◌-◌, ◌^◌, ◌<◌, ◌≤◌}
use Rattle.range_nodes.specs.declared.nodes.TheConstants.{CAPACITY}
use Rattle.range_tree.proofs.btree.building.layout_of.Given as goal

abbrev pub invariant-up : goal.invariant-up
invariant-up l =
    record {
      width_is : l.width ≡ (CAPACITY + 1) ^ l.below;
      deep : l.below < l.width;
      least : l.width ≤ l.count;
    }

abbrev pub decreases-up : goal.decreases-up
decreases-up l = l.count - l.width
