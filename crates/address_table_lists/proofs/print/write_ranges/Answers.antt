use Rattle.std.proofs.Common.{map, refl, subst, sym, arith}
use Rattle.btree_range_map.specs.Holding.{box_items}
use Rattle.line_program.proofs.Listing.{HasShown, shown_all, shown_more, shown_none}
use Rattle.address_tables.proofs.Items.{have_spans}
use Rattle.address_tables.proofs.Pushed.{HaveSpans}
use Rattle.address_table_lists.specs.Printed.{IsItemLine}
use Rattle.address_table_lists.proofs.print.write_ranges.Goals as goal

pub loop-range-init : goal.loop-range-init
loop-range-init g c =
    let items = c.iter-items.ensures.items in
    let canonical = rw items at c.iter-items.ensures.canonical in
    record {
      spans =
          subst (λ left. HaveSpans g.A.Address.number g.A.Address.at g.A.Address.WIDTH left)
          (sym items)
          (have_spans g.met.A.Address.family _ (box_items c.args.table.now)
          canonical.stored.known (canonical.coarse g.met.A.Complete.complete));
      shown = rw items (shown_none _ (box_items c.args.table.now) (g.W.Write.contents c.args.out.now));
    }

pub write_item-requires : goal.write_item-requires
write_item-requires g c =
    (subst (λ left. HaveSpans g.A.Address.number g.A.Address.at g.A.Address.WIDTH left)
    c.in-Some.ensures.steps c.loop-range.invariant.spans).0

pub loop-range-preserved : goal.loop-range-preserved
loop-range-preserved g c =
    let Line =
    IsItemLine c.args.form g.A.FamilyAddress.its_family g.A.Address.number g.A.Address.WIDTH
    (map (λ v. v.items) c.args.values.now) in
    let start = g.W.Write.contents c.args.out.now in
    let now = g.W.Write.contents c.loop-range.out in
    let next = g.W.Write.contents c.write_item.new.out in
    record {
      spans =
          (subst (λ left. HaveSpans g.A.Address.number g.A.Address.at g.A.Address.WIDTH left)
          c.in-Some.ensures.steps c.loop-range.invariant.spans).1;
      shown =
          shown_more Line (box_items c.args.table.now) _
          (record { key = c.in-Some.range.now; value = c.in-Some.value.now }) start now next
          (subst (λ left. HasShown Line (box_items c.args.table.now) left start now)
          c.in-Some.ensures.steps c.loop-range.invariant.shown)
          (_, refl, c.in_ok-write_item.ensures);
    }

pub returns : goal.returns
returns g c = grind (arith, shown_all)
