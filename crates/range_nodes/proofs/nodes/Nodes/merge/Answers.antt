use Rattle.range_nodes.proofs.Siblings.{merged}
use Rattle.range_nodes.proofs.nodes.Nodes.merge.Goals as goal

pub returns : goal.returns
returns g c =
    let two = rw (c.child_at-left.ensures, c.child_at-right.ensures) at c.append.ensures in
    merged c.args.self.now c.take_beside-down.new.self c.append.new.self c.args.number c.args.index
    c.requires.pair c.take_beside-down.result.0 c.take_beside-down.ensures.item
    c.take_beside-down.ensures.rest two
