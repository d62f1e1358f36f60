use Rattle.std.proofs.Common.{◌≡◌, ◌+◌, ◌++◌, length, IfSome}
use Rattle.address_prefixes.specs.Runs.{IsSpan}
use Rattle.address_prefixes.specs.Tiles.{all_tiles, part_tiles}
use Rattle.address_tables.specs.Tiled.{valued}
use Rattle.address_table_lists.proofs.table.push_prefixes.Given as goal

abbrev pub invariant-loop-part : goal.invariant-loop-part
invariant-loop-part g l = record {
  numbers : IfSome l.part (IsSpan g.A.Address.WIDTH);
  made : l.entries.items
      ++ valued l.value (part_tiles g.A.Address.at g.A.Address.WIDTH l.part)
      ≡ l.initial.entries.items ++ valued l.value
      (all_tiles g.A.Address.at g.A.Address.WIDTH l.fn.span.0 (l.fn.span.1 + 1));
}

abbrev pub decreases-loop-part : goal.decreases-loop-part
decreases-loop-part g l = length (part_tiles g.A.Address.at g.A.Address.WIDTH l.part)
