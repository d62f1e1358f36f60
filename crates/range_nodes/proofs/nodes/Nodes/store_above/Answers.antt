use Rattle.std.proofs.Common.{List, ℕ, [], ◌∷◌, arith}
use Rattle.std.proofs.Math.ListN.{length-set}
use Rattle.std.proofs.lemmas.List.{set-get_or}
use Rattle.range_nodes.specs.Heap.{Stores}
use Rattle.range_nodes.specs.Rows.{row_of}
use Rattle.range_nodes.proofs.Spares.{Leaves, bare_children, bare_row, filled, spare_there, spares_left}
use Rattle.range_nodes.proofs.nodes.Nodes.store_above.Given.{Over}
use Rattle.range_nodes.proofs.nodes.Nodes.store_above.Goals as goal
use Rattle.range_nodes.proofs.nodes.Nodes.store_above.Goals.{After-next_spare-number}

stored : (g : Over) (c : After-next_spare-number g) → Leaves c.self.inside.children.lists
    c.self.inside.rows c.self.inside.spares.items c.next_spare-number.result (c.args.child ∷ [])
    (row_of c.self.inside.rows c.next_spare-number.result) c.next_spare-number.new.spares.items
    (λ old new. Stores old new c.next_spare-number.result
    (row_of c.self.inside.rows c.next_spare-number.result) (c.args.child ∷ []))
stored g c =
    let parts = c.next_spare-number.ensures.items in
    filled c.self.invariant.0 c.next_spare-number.result (spare_there c.self.invariant.0 parts) _ _
    parts

pub next_spare-number-requires : goal.next_spare-number-requires
next_spare-number-requires g c =
    omega (arith, spares_left c.self.invariant.0 1 (rw (← c.self.view_is) at c.requires))

pub put_first-requires-clause-number : goal.put_first-requires-clause-number
put_first-requires-clause-number g c =
    spare_there c.self.invariant.0 c.next_spare-number.ensures.items

pub put_first-requires-clause-none : goal.put_first-requires-clause-none
put_first-requires-clause-none g c =
    bare_children c.self.invariant.0 c.next_spare-number.ensures.items

pub invariant_of-self : goal.invariant_of-self
invariant_of-self g c =
    let number = c.next_spare-number.result in
    let stored = stored g (goal.at.invariant_of-self g c).After-next_spare-number in
    rw c.put_first.ensures (
      rw (set-get_or c.self.inside.rows number []) at stored.whole,
      omega (arith, c.self.invariant.1, c.next_spare-number.ensures.capacity, length-set {A = List ℕ}),
    )

pub returns : goal.returns
returns g c =
    let number = c.next_spare-number.result in
    let parts = c.next_spare-number.ensures.items in
    let stored = stored g (goal.at.returns g c).After-next_spare-number in
    rw (← c.self.view_is, c.put_first.ensures)
    (rw (set-get_or c.self.inside.rows number [], bare_row c.self.invariant.0 parts) at
    stored.nodes)
