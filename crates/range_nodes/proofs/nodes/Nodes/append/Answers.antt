use Rattle.std.proofs.Common.{List, ℕ, [], ◌∷◌, ◌++◌, arith, refl}
use Rattle.std.proofs.Math.ListN.{set, length-set}
use Rattle.range_nodes.specs.Heap.{HasNode, Removes, Writes}
use Rattle.range_nodes.specs.Rows.{row_of}
use Rattle.range_nodes.specs.Spares.{heap_of}
use Rattle.range_nodes.proofs.Spares.{Leaves, children_seen, edited, emptied, fewer_spares, items_seen, number_there, row_there}
use Rattle.range_nodes.proofs.nodes.Nodes.append.Given.{Over}
use Rattle.range_nodes.proofs.nodes.Nodes.append.Goals as goal
use Rattle.range_nodes.proofs.nodes.Nodes.append.Goals.{After-absorb}

module _ (g : Over) (c : After-absorb g) where
  gone : Leaves c.self.inside.children.lists c.self.inside.rows c.self.inside.spares.items
      c.args.right [] [] (c.args.right ∷ c.self.inside.spares.items)
      (λ old new. Removes old new c.args.right)
  gone =
      let right = rw (← c.self.view_is) at c.requires.right in
      emptied c.self.invariant.0 c.args.right (number_there c.self.invariant.0 c.args.right right)
      _ _ right refl refl

  grown : Leaves (set c.self.inside.children.lists c.args.right [])
      (set c.self.inside.rows c.args.right []) (c.args.right ∷ c.self.inside.spares.items)
      c.args.left
      (row_of c.self.inside.children.lists c.args.left
      ++ row_of c.self.inside.children.lists c.args.right)
      (row_of c.self.inside.rows c.args.left
      ++ c.args.middle ∷ row_of c.self.inside.rows c.args.right)
      (c.args.right ∷ c.self.inside.spares.items)
      (λ old new. Writes old new c.args.left
      (row_of c.self.inside.rows c.args.left
      ++ c.args.middle ∷ row_of c.self.inside.rows c.args.right)
      (row_of c.self.inside.children.lists c.args.left
      ++ row_of c.self.inside.children.lists c.args.right))
  grown =
      let left = rw (← c.self.view_is) at c.requires.left in
      let still : HasNode (heap_of (set c.self.inside.children.lists c.args.right [])
      (set c.self.inside.rows c.args.right []) (c.args.right ∷ c.self.inside.spares.items))
      c.args.left = rw (gone.nodes.others c.args.left c.requires.apart) left in
      edited gone.whole c.args.left (number_there gone.whole c.args.left still) _ _ still

pub absorb-requires-clause-left : goal.absorb-requires-clause-left
absorb-requires-clause-left g c =
    number_there c.self.invariant.0 c.args.left (rw (← c.self.view_is) at c.requires.left)

pub absorb-requires-clause-right : goal.absorb-requires-clause-right
absorb-requires-clause-right g c =
    number_there c.self.invariant.0 c.args.right (rw (← c.self.view_is) at c.requires.right)

pub absorb-requires-clause-children : goal.absorb-requires-clause-children
absorb-requires-clause-children g c =
    let left = rw (← c.self.view_is) at c.requires.left in
    let right = rw (← c.self.view_is) at c.requires.right in
    let children = rw (← c.self.view_is) at c.requires.children in
    rw (
      children_seen c.self.invariant.0 c.args.left left,
      children_seen c.self.invariant.0 c.args.right right,
    ) at children

pub absorb-requires-clause-places : goal.absorb-requires-clause-places
absorb-requires-clause-places g c =
    let left = rw (← c.self.view_is) at c.requires.left in
    let right = rw (← c.self.view_is) at c.requires.right in
    let places = rw (← c.self.view_is) at c.requires.places in
    rw (
      children_seen c.self.invariant.0 c.args.left left,
      children_seen c.self.invariant.0 c.args.right right,
    ) at places

pub absorb-requires-2-clause-left : goal.absorb-requires-2-clause-left
absorb-requires-2-clause-left g c =
    row_there c.self.invariant.0 c.args.left (rw (← c.self.view_is) at c.requires.left)

pub absorb-requires-2-clause-right : goal.absorb-requires-2-clause-right
absorb-requires-2-clause-right g c =
    row_there c.self.invariant.0 c.args.right (rw (← c.self.view_is) at c.requires.right)

pub absorb-requires-2-clause-room : goal.absorb-requires-2-clause-room
absorb-requires-2-clause-room g c =
    let left = rw (← c.self.view_is) at c.requires.left in
    let right = rw (← c.self.view_is) at c.requires.right in
    let room = rw (← c.self.view_is) at c.requires.room in
    rw (
      items_seen c.self.invariant.0 c.args.left left,
      items_seen c.self.invariant.0 c.args.right right,
    ) at room

pub push_front_reserved-requires : goal.push_front_reserved-requires
push_front_reserved-requires g c =
    omega (
      arith,
      fewer_spares c.self.invariant.0 c.args.left (rw (← c.self.view_is) at c.requires.left),
      c.self.invariant.1,
    )

pub invariant_of-self : goal.invariant_of-self
invariant_of-self g c =
    let grown = grown g (goal.at.invariant_of-self g c).After-absorb in
    rw (c.absorb.ensures, c.absorb-2.ensures, c.push_front_reserved.ensures.items) (
      grown.whole,
      omega (
        arith,
        c.self.invariant.1,
        c.push_front_reserved.ensures.capacity,
        length-set {A = List ℕ},
      ),
    )

pub returns : goal.returns
returns g c =
    let a = (goal.at.returns g c).After-absorb in
    let left = rw (← c.self.view_is) at c.requires.left in
    let right = rw (← c.self.view_is) at c.requires.right in
    rw (
      ← c.self.view_is,
      c.absorb.ensures,
      c.absorb-2.ensures,
      c.push_front_reserved.ensures.items,
    )
    (record {
      between = _;
      right = (gone g a).nodes;
      left = rw (
        items_seen c.self.invariant.0 c.args.left left,
        items_seen c.self.invariant.0 c.args.right right,
        children_seen c.self.invariant.0 c.args.left left,
        children_seen c.self.invariant.0 c.args.right right,
      ) (grown g a).nodes;
    })
