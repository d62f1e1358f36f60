use Rattle.std.proofs.Common.{sym, ◌∙◌}
use Rattle.range_nodes.proofs.Spares.{items_seen, row_there}
use Rattle.range_nodes.proofs.nodes.Nodes.items.Goals as goal

pub items-requires : goal.items-requires
items-requires g c =
    row_there c.self.invariant.0 c.args.number (rw (← c.self.view_is) at c.requires)

pub returns-clause-items : goal.returns-clause-items
returns-clause-items g c =
    let present = rw (← c.self.view_is) at c.requires in
    rw (← c.self.view_is) (c.items.ensures.items
    ∙ sym (items_seen c.self.invariant.0 c.args.number present))
