use Rattle.std.proofs.Common.{List, ℕ, [], ◌∷◌, length, ap, arith, refl, sym, ◌∙◌}
use Rattle.std.proofs.Math.ListN.{length-set}
use Rattle.std.proofs.lemmas.List.{nil_from_length, set-get_or}
use Rattle.range_nodes.specs.Heap.{Removes}
use Rattle.range_nodes.specs.Rows.{row_of}
use Rattle.range_nodes.proofs.Spares.{Leaves, emptied, fewer_spares, items_seen, number_there}
use Rattle.range_nodes.proofs.nodes.Nodes.remove_node.Given.{Over}
use Rattle.range_nodes.proofs.nodes.Nodes.remove_node.Goals as goal
use Rattle.range_nodes.proofs.nodes.Nodes.remove_node.Goals.{After-clear}

removed : (g : Over) (c : After-clear g) → Leaves c.self.inside.children.lists c.self.inside.rows
    c.self.inside.spares.items c.args.number [] (row_of c.self.inside.rows c.args.number)
    (c.args.number ∷ c.self.inside.spares.items) (λ old new. Removes old new c.args.number)
removed g c =
    let present = rw (← c.self.view_is) at c.requires.present in
    let empty = rw (← c.self.view_is) at c.requires.empty in
    emptied c.self.invariant.0 c.args.number
    (number_there c.self.invariant.0 c.args.number present) _ _ present
    (nil_from_length _
    (sym (ap length (items_seen c.self.invariant.0 c.args.number present)) ∙ empty)) refl

pub clear-requires : goal.clear-requires
clear-requires g c =
    number_there c.self.invariant.0 c.args.number (rw (← c.self.view_is) at c.requires.present)

pub push_front_reserved-requires : goal.push_front_reserved-requires
push_front_reserved-requires g c =
    omega (
      arith,
      fewer_spares c.self.invariant.0 c.args.number
          (rw (← c.self.view_is) at c.requires.present),
      c.self.invariant.1,
    )

pub invariant_of-self : goal.invariant_of-self
invariant_of-self g c =
    let removed = removed g (goal.at.invariant_of-self g c).After-clear in
    let rows = set-get_or c.self.inside.rows c.args.number [] in
    rw (c.clear.ensures, c.push_front_reserved.ensures.items) (
      rw rows at removed.whole,
      omega (
        arith,
        c.self.invariant.1,
        c.push_front_reserved.ensures.capacity,
        length-set {A = List ℕ},
      ),
    )

pub returns : goal.returns
returns g c =
    let removed = removed g (goal.at.returns g c).After-clear in
    let rows = set-get_or c.self.inside.rows c.args.number [] in
    rw (← c.self.view_is, c.clear.ensures, c.push_front_reserved.ensures.items)
    (rw rows at removed.nodes)
