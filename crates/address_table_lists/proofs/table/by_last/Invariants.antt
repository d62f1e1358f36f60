use Rattle.std.proofs.Common.{take}
use Rattle.btree_range_map.specs.Holding.{box_items}
use Rattle.address_table_lists.specs.Tables.{IsMadeLast}
use Rattle.address_table_lists.proofs.table.by_last.Given as goal

abbrev pub invariant-loop-binding : goal.invariant-loop-binding
invariant-loop-binding g l =
    IsMadeLast g.A.MaybeBounded.order g.A.Address.number (box_items l.table)
    (take l.binding-index l.bindings)
