use Rattle.std.proofs.Common.{◌≡◌, ◌++◌, map, length}
use Rattle.btree_range_map.specs.Holding.{box_items}
use Rattle.address_tables.specs.Tables.{shown}
use Rattle.address_tables.specs.Tiled.{tiled}
use Rattle.address_tables.proofs.Pushed.{HaveSpans}
use Rattle.address_tables.proofs.disjoint.disjoint_prefixes.Given as goal

abbrev pub invariant-loop-range : goal.invariant-loop-range
invariant-loop-range g l = record {
  spans : HaveSpans g.A.Address.number g.A.Address.at g.A.Address.WIDTH l.items;
  made : map shown l.entries.items
      ++ tiled g.A.Address.number g.A.Address.at g.A.Address.WIDTH l.items
      ≡ tiled g.A.Address.number g.A.Address.at g.A.Address.WIDTH (box_items l.fn.table);
}

abbrev pub decreases-loop-range : goal.decreases-loop-range
decreases-loop-range g l = length l.items
