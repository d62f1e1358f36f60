use Rattle.std.proofs.Common.{◌≡◌, map, subst, sym, refl, ◌∙◌}
use Rattle.btree_range_map.specs.Holding.{box_items}
use Rattle.address_prefixes.specs.Runs.{IsSpan}
use Rattle.address_tables.specs.Tables.{AreAscending, ArePrefixes, IsShortestApart, IsTableOf, shown}
use Rattle.address_tables.specs.Tiled.{tiled}
use Rattle.address_tables.proofs.Apart.{within_ascending}
use Rattle.address_tables.proofs.FewestApart.{shortest_apart}
use Rattle.address_tables.proofs.Items.{have_spans}
use Rattle.address_tables.proofs.Pushed.{HaveSpans, all_made, is_span, one_tiled}
use Rattle.address_tables.proofs.Tiled.{tiled_prefixes, tiled_table, tiled_within}
use Rattle.address_tables.proofs.disjoint.disjoint_prefixes.Goals as goal

pub loop-range-init : goal.loop-range-init
loop-range-init g c =
    let items = c.iter-items.ensures.items in
    let canonical = rw items at c.iter-items.ensures.canonical in
    record {
      spans =
          subst (λ left. HaveSpans g.A.Address.number g.A.Address.at g.A.Address.WIDTH left)
          (sym items)
          (have_spans g.met.A.Address.family g.V.PartialEq.eq (box_items c.args.table.now)
          canonical.stored.known (canonical.coarse g.met.A.Complete.complete));
      made = rw (c.new-entries.ensures.items, items) refl;
    }

pub span_of-requires : goal.span_of-requires
span_of-requires g c =
    (subst (λ left. HaveSpans g.A.Address.number g.A.Address.at g.A.Address.WIDTH left)
    c.in-Some.ensures.steps c.loop-range.invariant.spans).0

pub push_prefixes-requires : goal.push_prefixes-requires
push_prefixes-requires g c =
    rw c.span_of.ensures
    (is_span g.A.Address.number g.A.Address.at g.A.Address.WIDTH c.in-Some.range.now
    (subst (λ left. HaveSpans g.A.Address.number g.A.Address.at g.A.Address.WIDTH left)
    c.in-Some.ensures.steps c.loop-range.invariant.spans).0)

pub loop-range-preserved : goal.loop-range-preserved
loop-range-preserved g c =
    record {
      spans = (subst (λ left. HaveSpans g.A.Address.number g.A.Address.at g.A.Address.WIDTH left)
          c.in-Some.ensures.steps c.loop-range.invariant.spans).1;
      made =
          one_tiled g.A.Address.number g.A.Address.at g.A.Address.WIDTH c.in-Some.value.now
          c.in-Some.range.now _ _ _ _ _ c.in-Some.ensures.steps
          (rw c.span_of.ensures at c.in_ok-push_prefixes.ensures) c.loop-range.invariant.made;
    }

pub returns : goal.returns
returns g c =
    let family = g.met.A.Address.family in
    let same_value = g.V.PartialEq.eq in
    let laws = g.met.V.Eq.laws in
    let items = box_items c.args.table.now in
    let canonical = rw c.iter-items.ensures.items at c.iter-items.ensures.canonical in
    let known = canonical.stored.known in
    let coarse = canonical.coarse g.met.A.Complete.complete in
    let all = all_made (tiled g.A.Address.number g.A.Address.at g.A.Address.WIDTH)
    (map shown c.loop-range.entries.items) _ _ c.in_default.ensures.steps.0 refl
    c.loop-range.invariant.made in
    record {
      prefixes = rw all (tiled_prefixes family same_value items known coarse);
      routes = rw all (tiled_table family same_value laws items known coarse);
      ascending = rw all (within_ascending g.A.Address.number 0 _
          (tiled_within family same_value items known coarse));
      shortest = rw all (shortest_apart family same_value laws items known coarse);
    }
