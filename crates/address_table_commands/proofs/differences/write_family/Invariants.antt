use Rattle.std.proofs.Common.{length}
use Rattle.btree_range_map.specs.Holding.{box_items}
use Rattle.line_program.proofs.Listing.{HasShown}
use Rattle.address_tables.proofs.Pushed.{HaveSpans}
use Rattle.address_table_commands.specs.Differences.{IsChangeLines}
use Rattle.address_table_commands.proofs.differences.write_family.Given as goal

abbrev pub invariant-loop-range : goal.invariant-loop-range
invariant-loop-range g l = record {
  spans : HaveSpans g.A.Address.number g.A.Address.at g.A.Address.WIDTH l.items;
  shown : HasShown (IsChangeLines l.texts l.others g.A.FamilyAddress.its_family g.A.Address.number
      g.A.Address.WIDTH) (box_items l.fn.changes) l.items
      (g.W.Write.contents l.fn.out) (g.W.Write.contents l.out);
}

abbrev pub decreases-loop-range : goal.decreases-loop-range
decreases-loop-range g l = length l.items
