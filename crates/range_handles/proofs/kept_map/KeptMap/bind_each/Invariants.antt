use Rattle.std.proofs.Common.{◌≤◌, ◌-◌, take, map, length, nat_eq}
use Rattle.btree_range_map.specs.MapExtending.{AreBoundAfter}
use Rattle.range_handles.proofs.kept_map.KeptMap.bind_each.Given as goal

abbrev pub invariant-loop-count : goal.invariant-loop-count
invariant-loop-count g l =
    record {
      bound : AreBoundAfter g.K.MaybeBounded.order nat_eq l.initial.self l.self
          (map g.E.Told.told (take l.count l.entries));
      within : l.count ≤ length l.entries;
    }

abbrev pub decreases-loop-count : goal.decreases-loop-count
decreases-loop-count g l = length l.entries - l.count
