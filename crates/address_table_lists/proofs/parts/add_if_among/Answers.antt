use Rattle.std.proofs.Common.{◌≡◌, true, false, subst, sym, arith}
use Rattle.btree_range_map.specs.Holding.{box_items}
use Rattle.line_program.proofs.Listing.{on_ok_as}
use Rattle.address_prefixes.specs.Runs.{IsSpan}
use Rattle.address_tables.proofs.Pushed.{is_span}
use Rattle.address_table_lists.specs.Parts.{is_among}
use Rattle.address_table_lists.proofs.Selected.{none_added, span_added}
use Rattle.address_table_lists.proofs.parts.add_if_among.Goals as goal

pub add_span-requires-clause-span : goal.add_span-requires-clause-span
add_span-requires-clause-span g c =
    subst (IsSpan g.A.Address.WIDTH) (sym c.span_of.ensures)
    (is_span g.A.Address.number g.A.Address.at g.A.Address.WIDTH c.args.range.now c.requires.span)

pub returns-then-contains : goal.returns-then-contains
returns-then-contains g c =
    let among : is_among c.args.values.now c.args.value ≡ true = grind arith in
    on_ok_as c.add_span.result _ _
    (span_added g.met.A.Address.family (is_among c.args.values.now c.args.value)
    c.args.range.now c.span_of.result (box_items c.args.set.now) (box_items c.add_span.new.set)
    among c.requires.span c.span_of.ensures)
    c.add_span.ensures

pub returns : goal.returns
returns g c =
    let other : is_among c.args.values.now c.args.value ≡ false = grind arith in
    none_added g.met.A.Address.family (is_among c.args.values.now c.args.value) c.args.range.now
    (box_items c.args.set.now) other
