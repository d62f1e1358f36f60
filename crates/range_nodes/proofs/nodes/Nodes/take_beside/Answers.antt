use Rattle.std.proofs.Common.{List, ℕ, arith}
use Rattle.std.proofs.Math.ListN.{length-set}
use Rattle.std.specs.List.{remove}
use Rattle.range_nodes.specs.Heap.{Writes}
use Rattle.range_nodes.specs.Rows.{row_of}
use Rattle.range_nodes.proofs.Spares.{Leaves, children_seen, edited, items_seen, number_there, row_there}
use Rattle.range_nodes.proofs.nodes.Nodes.take_beside.Given.{Over}
use Rattle.range_nodes.proofs.nodes.Nodes.take_beside.Goals as goal
use Rattle.range_nodes.proofs.nodes.Nodes.take_beside.Goals.{After-take-child}

written : (g : Over) (c : After-take-child g) → Leaves c.self.inside.children.lists
    c.self.inside.rows c.self.inside.spares.items c.args.number
    (remove (row_of c.self.inside.children.lists c.args.number) c.args.place)
    (remove (row_of c.self.inside.rows c.args.number) c.args.index) c.self.inside.spares.items
    (λ old new. Writes old new c.args.number
    (remove (row_of c.self.inside.rows c.args.number) c.args.index)
    (remove (row_of c.self.inside.children.lists c.args.number) c.args.place))
written g c =
    let present = rw (← c.self.view_is) at c.requires.present in
    edited c.self.invariant.0 c.args.number
    (number_there c.self.invariant.0 c.args.number present) _ _ present

pub take-child-requires : goal.take-child-requires
take-child-requires g c =
    number_there c.self.invariant.0 c.args.number (rw (← c.self.view_is) at c.requires.present)

pub take-requires-clause-number : goal.take-requires-clause-number
take-requires-clause-number g c =
    row_there c.self.invariant.0 c.args.number (rw (← c.self.view_is) at c.requires.present)

pub take-requires-clause-within : goal.take-requires-clause-within
take-requires-clause-within g c =
    let present = rw (← c.self.view_is) at c.requires.present in
    let within = rw (← c.self.view_is) at c.requires.within in
    rw (items_seen c.self.invariant.0 c.args.number present) at within

pub invariant_of-self : goal.invariant_of-self
invariant_of-self g c =
    let written = written g (goal.at.invariant_of-self g c).After-take-child in
    rw (c.take-child.ensures.rest, c.take.ensures.rest)
    (written.whole, omega (arith, c.self.invariant.1, length-set {A = List ℕ}))

pub returns : goal.returns
returns g c =
    let present = rw (← c.self.view_is) at c.requires.present in
    let items = items_seen c.self.invariant.0 c.args.number present in
    let children = children_seen c.self.invariant.0 c.args.number present in
    let written = written g (goal.at.returns g c).After-take-child in
    rw (← c.self.view_is)
    (rw (items, children, c.take-child.ensures.rest, c.take.ensures.rest) (record {
      item = c.take.ensures.item;
      child = c.take-child.ensures.child;
      rest = written.nodes;
    }))
