use Rattle.std.proofs.Common.{◌≡◌, ◌<◌, ◌≤◌, ◌^◌, map, length, subst, sym, refl, arith}
use Rattle.std.proofs.lemmas.List.{length-map}
use Rattle.btree_range_map.specs.Holding.{box_items}
use Rattle.address_tables.proofs.Items.{have_spans}
use Rattle.address_tables.proofs.Places.{at_most}
use Rattle.address_tables.proofs.Pushed.{HaveSpans, Spans, all_made, one_spanned}
use Rattle.address_tables.proofs.spans.spans_of.Goals as goal

pub loop-range-init : goal.loop-range-init
loop-range-init g c =
    let items = c.iter-items.ensures.items in
    let canonical = rw items at c.iter-items.ensures.canonical in
    record {
      spans =
          subst (λ left. HaveSpans g.A.Address.number g.A.Address.at g.A.Address.WIDTH left)
          (sym items)
          (have_spans g.met.A.Address.family g.V.PartialEq.eq (box_items c.args.table.now)
          canonical.stored.known (canonical.coarse g.met.A.Complete.complete));
      made = rw (c.new-spans.ensures.items, items) refl;
    }

pub span_of-first-requires : goal.span_of-first-requires
span_of-first-requires g c =
    (subst (λ left. HaveSpans g.A.Address.number g.A.Address.at g.A.Address.WIDTH left)
    c.in-Some.ensures.steps c.loop-range.invariant.spans).0

pub overflow_cast-value : goal.overflow_cast-value
overflow_cast-value g c =
    let most = at_most g.V.PartialEq.eq (map (λ v. v.now) c.args.values.now) c.in-Some.value.now in
    let long = length-map c.args.values.now (λ v. v.now) in
    omega (arith, most, long, c.place_of-value.ensures, c.requires)

pub loop-range-preserved : goal.loop-range-preserved
loop-range-preserved g c =
    record {
      spans = (subst (λ left. HaveSpans g.A.Address.number g.A.Address.at g.A.Address.WIDTH left)
          c.in-Some.ensures.steps c.loop-range.invariant.spans).1;
      made =
          one_spanned g.A.Address.number g.A.Address.at g.A.Address.WIDTH g.V.PartialEq.eq
          (map (λ v. v.now) c.args.values.now)
          (record { key = c.in-Some.range.now; value = c.in-Some.value.now })
          (record {
            first = c.span_of-first.result.0;
            last = c.span_of-first.result.1;
            value = c.place_of-value.result;
          }) _ _ _ _ _ c.in-Some.ensures.steps c.in_ok-push.ensures.items
          (rw (c.span_of-first.ensures, c.place_of-value.ensures) refl) c.loop-range.invariant.made;
    }

pub returns : goal.returns
returns g c =
    all_made (Spans g.A.Address.number g.A.Address.at g.A.Address.WIDTH g.V.PartialEq.eq
    (map (λ v. v.now) c.args.values.now)) c.loop-range.spans.items _ _
    c.in_default.ensures.steps.0 refl c.loop-range.invariant.made
