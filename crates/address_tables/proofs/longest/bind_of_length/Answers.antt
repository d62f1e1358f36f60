use Rattle.std.proofs.Common.{◌≡◌, ◌+◌, ◌<◌, length, get_or, take}
use Rattle.std.proofs.lemmas.List.{take_more}
use Rattle.btree_range_map.specs.Holding.{box_items}
use Rattle.address_tables.proofs.Bound.{more_over, none_over}
use Rattle.address_tables.proofs.longest.bind_of_length.Goals as goal

pub loop-entry-init : goal.loop-entry-init
loop-entry-init g c =
    none_over g.met.A.Address.family g.V.PartialEq.eq c.args.length (box_items c.args.table.now)

pub loop-entry-preserved : goal.loop-entry-preserved
loop-entry-preserved g c =
    let entries = c.args.entries.now in
    let entry = c.entry-item.result in
    let is : get_or c.args.entries.now c.loop-entry.entry-index c.entry-item.result
    ≡ c.entry-item.result = cc in
    rw (take_more entries c.loop-entry.entry-index entry c.loop-entry-test.true, is)
    (more_over g.met.A.Address.family g.V.PartialEq.eq c.args.length
    (take c.loop-entry.entry-index entries) entry (box_items c.args.table.now)
    (box_items c.loop-entry.table) (box_items c.bind_if_of_length.new.table)
    c.loop-entry.invariant c.in_ok-bind_if_of_length.ensures)
