use Rattle.std.proofs.Common.{take}
use Rattle.std.specs.List.{AllZip}
use Rattle.table_handles.specs.Prefixes.{IsMeant}
use Rattle.table_handles.proofs.longest.entries_of.Given as goal

-- those so far are meant
abbrev pub invariant-loop-prefix : goal.invariant-loop-prefix
invariant-loop-prefix l = AllZip IsMeant (take l.prefix-index l.prefixes) l.entries.items
