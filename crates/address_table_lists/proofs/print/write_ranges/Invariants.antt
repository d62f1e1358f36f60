use Rattle.std.proofs.Common.{map, length}
use Rattle.btree_range_map.specs.Holding.{box_items}
use Rattle.line_program.proofs.Listing.{HasShown}
use Rattle.address_tables.proofs.Pushed.{HaveSpans}
use Rattle.address_table_lists.specs.Printed.{IsItemLine}
use Rattle.address_table_lists.proofs.print.write_ranges.Given as goal

abbrev pub invariant-loop-range : goal.invariant-loop-range
invariant-loop-range g l = record {
  spans : HaveSpans g.A.Address.number g.A.Address.at g.A.Address.WIDTH l.items;
  shown : HasShown (IsItemLine l.form g.A.FamilyAddress.its_family g.A.Address.number
      g.A.Address.WIDTH (map (λ v. v.items) l.values)) (box_items l.fn.table) l.items
      (g.W.Write.contents l.fn.out) (g.W.Write.contents l.out);
}

abbrev pub decreases-loop-range : goal.decreases-loop-range
decreases-loop-range g l = length l.items
