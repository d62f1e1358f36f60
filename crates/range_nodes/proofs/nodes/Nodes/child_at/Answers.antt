use Rattle.range_nodes.proofs.Spares.{children_seen}
use Rattle.range_nodes.proofs.nodes.Nodes.child_at.Goals as goal

pub child_at-requires : goal.child_at-requires
child_at-requires g c =
    let present = rw (← c.self.view_is) at c.requires.present in
    rw (← children_seen c.self.invariant.0 c.args.number present)
    (rw (← c.self.view_is) at c.requires.within)

pub returns : goal.returns
returns g c =
    let present = rw (← c.self.view_is) at c.requires.present in
    rw (← c.self.view_is)
    (rw (children_seen c.self.invariant.0 c.args.number present) c.child_at.ensures)
