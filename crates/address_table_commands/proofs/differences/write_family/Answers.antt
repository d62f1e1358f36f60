use Rattle.std.proofs.Common.{ap, subst, sym, arith}
use Rattle.btree_range_map.specs.Holding.{box_items}
use Rattle.line_program.proofs.Listing.{HasShown, shown_all, shown_more, shown_none}
use Rattle.address_prefixes.specs.Runs.{IsSpan}
use Rattle.address_tables.proofs.Items.{have_spans}
use Rattle.address_tables.proofs.Pushed.{HaveSpans, is_span}
use Rattle.address_table_commands.specs.Differences.{IsChangeLines, change_lines}
use Rattle.address_table_commands.proofs.differences.write_family.Goals as goal

pub loop-range-init : goal.loop-range-init
loop-range-init g c =
    let items = c.iter-items.ensures.items in
    let canonical = rw items at c.iter-items.ensures.canonical in
    record {
      spans =
          subst (λ left. HaveSpans g.A.Address.number g.A.Address.at g.A.Address.WIDTH left)
          (sym items)
          (have_spans g.met.A.Address.family _ (box_items c.args.changes.now)
          canonical.stored.known (canonical.coarse g.met.A.Complete.complete));
      shown = rw items (shown_none _ (box_items c.args.changes.now) (g.W.Write.contents c.args.out.now));
    }

pub loop-range-preserved : goal.loop-range-preserved
loop-range-preserved g c =
    let Lines =
    IsChangeLines c.args.texts.now c.args.others.now g.A.FamilyAddress.its_family
    g.A.Address.number g.A.Address.WIDTH in
    let start = g.W.Write.contents c.args.out.now in
    let now = g.W.Write.contents c.loop-range.out in
    let next = g.W.Write.contents c.write_change.new.out in
    record {
      spans =
          (subst (λ left. HaveSpans g.A.Address.number g.A.Address.at g.A.Address.WIDTH left)
          c.in-Some.ensures.steps c.loop-range.invariant.spans).1;
      shown =
          shown_more Lines (box_items c.args.changes.now) _
          (record { key = c.in-Some.range.now; value = c.in-Some.change.now }) start now next
          (subst (λ left. HasShown Lines (box_items c.args.changes.now) left start now)
          c.in-Some.ensures.steps c.loop-range.invariant.shown) (
            change_lines c.args.texts.now c.args.others.now g.A.FamilyAddress.its_family
                c.span_of.result c.in-Some.change.now,
            ap (λ ends. change_lines c.args.texts.now c.args.others.now
                g.A.FamilyAddress.its_family ends c.in-Some.change.now) c.span_of.ensures,
            c.in_ok-write_change.ensures,
          );
    }

pub returns : goal.returns
returns g c = grind (arith, shown_all)

pub span_of-requires : goal.span_of-requires
span_of-requires g c =
    (subst (λ left. HaveSpans g.A.Address.number g.A.Address.at g.A.Address.WIDTH left)
    c.in-Some.ensures.steps c.loop-range.invariant.spans).0

pub write_change-requires : goal.write_change-requires
write_change-requires g c =
    let has =
    (subst (λ left. HaveSpans g.A.Address.number g.A.Address.at g.A.Address.WIDTH left)
    c.in-Some.ensures.steps c.loop-range.invariant.spans).0 in
    subst (IsSpan g.A.Address.WIDTH) (sym c.span_of.ensures)
    (is_span g.A.Address.number g.A.Address.at g.A.Address.WIDTH c.in-Some.range.now has)
