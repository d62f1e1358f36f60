use Rattle.std.proofs.Common.{length, sym, ap, ◌∙◌}
use Rattle.range_nodes.proofs.Spares.{items_seen, row_there}
use Rattle.range_nodes.proofs.nodes.Nodes.item_count.Goals as goal

pub row_len-requires : goal.row_len-requires
row_len-requires g c =
    row_there c.self.invariant.0 c.args.number (rw (← c.self.view_is) at c.requires)

pub returns : goal.returns
returns g c =
    let present = rw (← c.self.view_is) at c.requires in
    rw (← c.self.view_is) (c.row_len.ensures.len
    ∙ sym (ap length (items_seen c.self.invariant.0 c.args.number present)))
