use Rattle.std.proofs.Common.{◌≡◌, take}
use Rattle.address_table_lists.specs.Tables.{tiles_of}
use Rattle.address_table_lists.proofs.table.entries_of.Given as goal

abbrev pub invariant-loop-binding : goal.invariant-loop-binding
invariant-loop-binding g l = l.entries.items
    ≡ tiles_of g.A.Address.number g.A.Address.at g.A.Address.WIDTH (take l.binding-index l.bindings)
