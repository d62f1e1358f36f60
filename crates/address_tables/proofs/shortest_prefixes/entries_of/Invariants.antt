use Rattle.std.proofs.Common.{take}
use Rattle.address_tables.specs.Numbers.{AreNamed}
use Rattle.address_tables.proofs.shortest_prefixes.entries_of.Given as goal

abbrev pub invariant-loop-entry : goal.invariant-loop-entry
invariant-loop-entry g l =
    AreNamed g.A.Address.at g.A.Address.WIDTH l.values (take l.entry-index l.numbered) l.entries.items
