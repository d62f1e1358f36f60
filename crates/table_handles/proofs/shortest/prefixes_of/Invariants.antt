use Rattle.std.proofs.Common.{◌≡◌, map, take}
use Rattle.address_tables.specs.Tables.{shown}
use Rattle.table_handles.specs.Prefixes.{parts, told}
use Rattle.table_handles.proofs.shortest.prefixes_of.Given as goal

-- those so far are said
abbrev pub invariant-loop-entry : goal.invariant-loop-entry
invariant-loop-entry l = map told l.prefixes.items ≡ map parts (map shown (take l.entry-index l.entries))
