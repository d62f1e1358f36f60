use Rattle.std.proofs.Common.{◌≡◌, ◌≤◌, ◌-◌, take, map, length}
use Rattle.btree_range_map.specs.Iteration.{pair_item}
use Rattle.range_handles.proofs.in_order.pairs_of.Given as goal

abbrev pub invariant-loop-count : goal.invariant-loop-count
invariant-loop-count g l =
    record {
      pairs : map pair_item l.pairs.items ≡ map g.E.Told.told (take l.count l.entries);
      within : l.count ≤ length l.entries;
    }

abbrev pub decreases-loop-count : goal.decreases-loop-count
decreases-loop-count g l = length l.entries - l.count
