use Rattle.std.proofs.Common.{take}
use Rattle.btree_range_map.specs.Holding.{box_items}
use Rattle.address_tables.specs.Lengths.{IsBoundOver}
use Rattle.address_tables.proofs.longest.bind_of_length.Given as goal

abbrev pub invariant-loop-entry : goal.invariant-loop-entry
invariant-loop-entry g l =
    IsBoundOver g.A.MaybeBounded.order g.A.Address.number g.V.PartialEq.eq l.length
    (take l.entry-index l.entries) (box_items l.initial.table) (box_items l.table)
