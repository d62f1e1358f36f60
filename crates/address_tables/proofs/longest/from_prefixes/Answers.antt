use Rattle.std.proofs.Common.{◌≡◌, ◌≤◌, ◌<◌, ◌+◌, subst, arith}
use Rattle.btree_range_map.specs.Holding.{box_items}
use Rattle.address_tables.proofs.Bound.{IsBoundBelow, all_below, next_below, none_below}
use Rattle.address_tables.proofs.longest.from_prefixes.Goals as goal

pub loop-length-init : goal.loop-length-init
loop-length-init g c =
    rw c.new-table.ensures
    (none_below g.met.A.Address.family g.V.PartialEq.eq c.args.entries.now)

pub loop-length-preserved : goal.loop-length-preserved
loop-length-preserved g c =
    next_below g.met.A.Address.family g.V.PartialEq.eq c.loop-length.length c.args.entries.now
    (box_items c.loop-length.table) (box_items c.bind_of_length.new.table)
    c.loop-length.invariant c.in_ok-bind_of_length.ensures

pub returns : goal.returns
returns g c =
    let past : c.loop-length.length ≡ c.past_lengths-length-end.result = omega arith in
    all_below g.met.A.Address.family g.V.PartialEq.eq c.past_lengths-length-end.result c.args.entries.now
    c.past_lengths-length-end.ensures (box_items c.loop-length.table)
    (subst (λ n. IsBoundBelow g.met.A.Address.family g.V.PartialEq.eq n c.args.entries.now
    (box_items c.loop-length.table)) past c.loop-length.invariant)
