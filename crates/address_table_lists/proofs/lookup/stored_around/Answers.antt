use Rattle.std.proofs.Common.{nat_eq}
use Rattle.btree_range_map.specs.Holding.{box_items}
use Rattle.address_table_lists.proofs.Stored.{has_span, stored_is}
use Rattle.address_table_lists.proofs.lookup.stored_around.Goals as goal

pub span_of-first-requires : goal.span_of-first-requires
span_of-first-requires g c =
    let items = c.iter-items.ensures.items in
    let canonical = rw items at c.iter-items.ensures.canonical in
    has_span g.met.A.Address.family nat_eq (box_items c.args.table.now)
    (record { key = c.in-Some.range.now; value = c.in-Some.value.now })
    canonical.stored.known (canonical.coarse g.met.A.Complete.complete)
    c.in-Some.ensures.stored.1

pub returns-in-Some : goal.returns-in-Some
returns-in-Some g c =
    let items = c.iter-items.ensures.items in
    let canonical = rw items at c.iter-items.ensures.canonical in
    stored_is g.met.A.Address.family (box_items c.args.table.now)
    (record { key = c.in-Some.range.now; value = c.in-Some.value.now }) c.args.address
    canonical.stored.known (canonical.coarse g.met.A.Complete.complete)
    c.in-Some.ensures.stored c.span_of-first.result c.span_of-first.ensures
