use Rattle.std.proofs.Common.{subst, sym}
use Rattle.btree_range_map.specs.Holding.{box_items}
use Rattle.address_tables.proofs.Items.{have_spans}
use Rattle.address_tables.proofs.Pushed.{HaveSpans}
use Rattle.address_table_lists.proofs.Selected.{selected_all, selected_next, selected_none}
use Rattle.address_table_lists.proofs.parts.select_family.Goals as goal

pub loop-range-init : goal.loop-range-init
loop-range-init g c =
    let items = c.iter-items.ensures.items in
    let canonical = rw items at c.iter-items.ensures.canonical in
    record {
      spans =
          subst (λ left. HaveSpans g.A.Address.number g.A.Address.at g.A.Address.WIDTH left)
          (sym items)
          (have_spans g.met.A.Address.family _ (box_items c.args.table.now)
          canonical.stored.known (canonical.coarse g.met.A.Complete.complete));
      selected =
          selected_none g.A.MaybeBounded.order c.args.values.now (box_items c.args.table.now) _ _
          items c.empty_set-set.ensures;
    }

pub add_if_among-requires-clause-span : goal.add_if_among-requires-clause-span
add_if_among-requires-clause-span g c =
    (subst (λ left. HaveSpans g.A.Address.number g.A.Address.at g.A.Address.WIDTH left)
    c.in-Some.ensures.steps c.loop-range.invariant.spans).0

pub loop-range-preserved : goal.loop-range-preserved
loop-range-preserved g c = record {
  spans =
      (subst (λ left. HaveSpans g.A.Address.number g.A.Address.at g.A.Address.WIDTH left)
      c.in-Some.ensures.steps c.loop-range.invariant.spans).1;
  selected =
      selected_next g.A.MaybeBounded.order c.args.values.now (box_items c.args.table.now) _ _
      (record { key = c.in-Some.range.now; value = c.in-Some.value.now }) (box_items c.loop-range.set)
      (box_items c.add_if_among.new.set) c.in-Some.ensures.steps c.in_ok-add_if_among.ensures
      c.loop-range.invariant.selected;
}

pub returns : goal.returns
returns g c =
    selected_all g.A.MaybeBounded.order c.args.values.now (box_items c.args.table.now) _
    (box_items c.loop-range.set) c.in_default.ensures.steps.0 c.loop-range.invariant.selected
