use Rattle.std.proofs.Common.{List, ℕ, arith}
use Rattle.std.proofs.Math.ListN.{length-set}
use Rattle.std.specs.List.{insert}
use Rattle.range_nodes.specs.Heap.{Writes, with_child}
use Rattle.range_nodes.specs.Rows.{row_of}
use Rattle.range_nodes.proofs.Spares.{Leaves, children_seen, edited, fits_place, items_seen, number_there, row_there}
use Rattle.range_nodes.proofs.nodes.Nodes.put.Given.{Over}
use Rattle.range_nodes.proofs.nodes.Nodes.put.Goals as goal
use Rattle.range_nodes.proofs.nodes.Nodes.put.Goals.{After-put}

written : (g : Over) (c : After-put g) → Leaves c.self.inside.children.lists c.self.inside.rows
    c.self.inside.spares.items c.args.number
    (with_child (row_of c.self.inside.children.lists c.args.number) c.args.place c.args.child)
    (insert (row_of c.self.inside.rows c.args.number) c.args.index c.args.item)
    c.self.inside.spares.items (λ old new. Writes old new c.args.number
    (insert (row_of c.self.inside.rows c.args.number) c.args.index c.args.item)
    (with_child (row_of c.self.inside.children.lists c.args.number) c.args.place c.args.child))
written g c =
    let present = rw (← c.self.view_is) at c.requires.present in
    edited c.self.invariant.0 c.args.number
    (number_there c.self.invariant.0 c.args.number present) _ _ present

pub put-requires : goal.put-requires
put-requires g c =
    let present = rw (← c.self.view_is) at c.requires.present in
    let items = items_seen c.self.invariant.0 c.args.number present in
    let children = children_seen c.self.invariant.0 c.args.number present in
    let near = rw (← c.self.view_is) at c.requires.near in
    let room = rw (← c.self.view_is) at c.requires.room in
    let fits = rw (← c.self.view_is) at c.requires.child in
    fits_place c.args.child c.args.place _ _ (rw items at near) (rw items at room)
    (rw (items, children) at fits)

pub put-requires-2-clause-number : goal.put-requires-2-clause-number
put-requires-2-clause-number g c =
    row_there c.self.invariant.0 c.args.number (rw (← c.self.view_is) at c.requires.present)

pub put-requires-2-clause-within : goal.put-requires-2-clause-within
put-requires-2-clause-within g c =
    let present = rw (← c.self.view_is) at c.requires.present in
    let within = rw (← c.self.view_is) at c.requires.within in
    rw (items_seen c.self.invariant.0 c.args.number present) at within

pub put-requires-2-clause-room : goal.put-requires-2-clause-room
put-requires-2-clause-room g c =
    let present = rw (← c.self.view_is) at c.requires.present in
    let room = rw (← c.self.view_is) at c.requires.room in
    rw (items_seen c.self.invariant.0 c.args.number present) at room

pub invariant_of-self : goal.invariant_of-self
invariant_of-self g c =
    let written = written g (goal.at.invariant_of-self g c).After-put in
    rw (c.put.ensures, c.put-2.ensures)
    (written.whole, omega (arith, c.self.invariant.1, length-set {A = List ℕ}))

pub returns : goal.returns
returns g c =
    let present = rw (← c.self.view_is) at c.requires.present in
    let written = written g (goal.at.returns g c).After-put in
    rw (← c.self.view_is, c.put.ensures, c.put-2.ensures)
    (rw (
      items_seen c.self.invariant.0 c.args.number present,
      children_seen c.self.invariant.0 c.args.number present,
    ) written.nodes)
