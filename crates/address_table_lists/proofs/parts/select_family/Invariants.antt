use Rattle.std.proofs.Common.{length}
use Rattle.btree_range_map.specs.Holding.{box_items}
use Rattle.address_tables.proofs.Pushed.{HaveSpans}
use Rattle.address_table_lists.proofs.Selected.{IsSelectedTo}
use Rattle.address_table_lists.proofs.parts.select_family.Given as goal

abbrev pub invariant-loop-range : goal.invariant-loop-range
invariant-loop-range g l = record {
  spans : HaveSpans g.A.Address.number g.A.Address.at g.A.Address.WIDTH l.items;
  selected : IsSelectedTo g.A.MaybeBounded.order l.values (box_items l.fn.table) l.items
      (box_items l.set);
}

abbrev pub decreases-loop-range : goal.decreases-loop-range
decreases-loop-range g l = length l.items
