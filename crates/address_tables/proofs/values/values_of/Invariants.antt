use Rattle.std.proofs.Common.{map, length}
use Rattle.std.specs.Option.{option_copied}
use Rattle.btree_range_map.specs.Holding.{box_items}
use Rattle.address_tables.proofs.Gathered.{AreGathered}
use Rattle.address_tables.proofs.values.values_of.Given as goal

abbrev pub invariant-loop-value : goal.invariant-loop-value
invariant-loop-value g l =
    AreGathered g.V.PartialEq.eq (map (λ v. v.now) l.values.items) (option_copied l.fn.otherwise)
    l.items (box_items l.fn.table)

abbrev pub decreases-loop-value : goal.decreases-loop-value
decreases-loop-value g l = length l.items
