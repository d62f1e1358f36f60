use Rattle.std.proofs.Common.{◌≤◌, ◌-◌, take, map, length}
use Rattle.btree_range_map.specs.KeySets.{HoldsAllAlso}
use Rattle.range_ffi.specs.Flags.{said_range}
use Rattle.range_handles.proofs.kept_set.KeptSet.add_each.Given as goal

abbrev pub invariant-loop-count : goal.invariant-loop-count
invariant-loop-count g l =
    record {
      added : HoldsAllAlso g.K.MaybeBounded.order l.initial.self l.self
          (map (said_range g.E.Told.told) (take l.count l.ranges));
      within : l.count ≤ length l.ranges;
    }

abbrev pub decreases-loop-count : goal.decreases-loop-count
decreases-loop-count g l = length l.ranges - l.count
