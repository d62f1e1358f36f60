use Rattle.std.proofs.Common.{ℕ, List, ◌+◌, take, drop, arith}
use Rattle.std.proofs.Math.ListN.{set, length-set}
use Rattle.std.specs.List.{insert}
use Rattle.range_nodes.specs.Heap.{Stores, Writes, with_child}
use Rattle.range_nodes.specs.Rows.{row_of}
use Rattle.range_nodes.proofs.Spares.{Leaves, apart_from_spare, bare_children, bare_row, children_seen, edited, filled, fits_full, items_seen, number_there, row_there, spare_row, spare_there, spares_left}
use Rattle.range_nodes.proofs.nodes.Nodes.split.Given.{Over}
use Rattle.range_nodes.proofs.nodes.Nodes.split.Goals as goal
use Rattle.range_nodes.proofs.nodes.Nodes.split.Goals.{After-next_spare-right}

module _ (g : Over) (c : After-next_spare-right g) where
  abbrev items : List g.row.T.Denot
  items = insert (row_of c.self.inside.rows c.args.number) c.args.index c.args.item

  abbrev children : List ℕ
  children =
      with_child (row_of c.self.inside.children.lists c.args.number) (c.args.index + 1) c.args.child

  first : Leaves c.self.inside.children.lists c.self.inside.rows c.self.inside.spares.items
      c.args.number (take 7 children) (take 6 items) c.self.inside.spares.items
      (λ old new. Writes old new c.args.number (take 6 items) (take 7 children))
  first =
      let present = rw (← c.self.view_is) at c.requires.present in
      edited c.self.invariant.0 c.args.number
      (number_there c.self.invariant.0 c.args.number present) _ _ present

  second : Leaves (set c.self.inside.children.lists c.args.number (take 7 children))
      (set c.self.inside.rows c.args.number (take 6 items)) c.self.inside.spares.items
      c.next_spare-right.result (drop 7 children) (drop 7 items)
      c.next_spare-right.new.spares.items
      (λ old new. Stores old new c.next_spare-right.result (drop 7 items) (drop 7 children))
  second =
      let parts = c.next_spare-right.ensures.items in
      filled first.whole c.next_spare-right.result (spare_there first.whole parts) _ _ parts

pub next_spare-right-requires : goal.next_spare-right-requires
next_spare-right-requires g c =
    omega (arith, spares_left c.self.invariant.0 1 (rw (← c.self.view_is) at c.requires.room))

pub divide-requires-clause-right : goal.divide-requires-clause-right
divide-requires-clause-right g c =
    spare_there c.self.invariant.0 c.next_spare-right.ensures.items

pub divide-requires-clause-apart : goal.divide-requires-clause-apart
divide-requires-clause-apart g c =
    apart_from_spare c.self.invariant.0 c.next_spare-right.ensures.items c.args.number
    (rw (← c.self.view_is) at c.requires.present)

pub divide-requires-clause-none : goal.divide-requires-clause-none
divide-requires-clause-none g c =
    bare_children c.self.invariant.0 c.next_spare-right.ensures.items

pub divide-requires-clause-child : goal.divide-requires-clause-child
divide-requires-clause-child g c =
    let present = rw (← c.self.view_is) at c.requires.present in
    let items = items_seen c.self.invariant.0 c.args.number present in
    let children = children_seen c.self.invariant.0 c.args.number present in
    let full = rw (← c.self.view_is) at c.requires.full in
    let fits = rw (← c.self.view_is) at c.requires.child in
    fits_full c.args.child _ _ (rw items at full) (rw (items, children) at fits)

pub divide-middle-requires-clause-left : goal.divide-middle-requires-clause-left
divide-middle-requires-clause-left g c =
    row_there c.self.invariant.0 c.args.number (rw (← c.self.view_is) at c.requires.present)

pub divide-middle-requires-clause-right : goal.divide-middle-requires-clause-right
divide-middle-requires-clause-right g c =
    spare_row c.self.invariant.0 c.next_spare-right.ensures.items

pub divide-middle-requires-clause-apart : goal.divide-middle-requires-clause-apart
divide-middle-requires-clause-apart g c =
    apart_from_spare c.self.invariant.0 c.next_spare-right.ensures.items c.args.number
    (rw (← c.self.view_is) at c.requires.present)

pub divide-middle-requires-clause-full : goal.divide-middle-requires-clause-full
divide-middle-requires-clause-full g c =
    let present = rw (← c.self.view_is) at c.requires.present in
    let full = rw (← c.self.view_is) at c.requires.full in
    rw (items_seen c.self.invariant.0 c.args.number present) at full

pub divide-middle-requires-clause-empty : goal.divide-middle-requires-clause-empty
divide-middle-requires-clause-empty g c =
    bare_row c.self.invariant.0 c.next_spare-right.ensures.items

pub invariant_of-self : goal.invariant_of-self
invariant_of-self g c =
    let second = second g (goal.at.invariant_of-self g c).After-next_spare-right in
    rw (c.divide.ensures, c.divide-middle.ensures.rows) (
      second.whole,
      omega (arith, c.self.invariant.1, c.next_spare-right.ensures.capacity, length-set {A = List ℕ}),
    )

pub returns : goal.returns
returns g c =
    let a = (goal.at.returns g c).After-next_spare-right in
    let present = rw (← c.self.view_is) at c.requires.present in
    rw (← c.self.view_is, c.divide.ensures, c.divide-middle.ensures.rows)
    (rw (
      items_seen c.self.invariant.0 c.args.number present,
      children_seen c.self.invariant.0 c.args.number present,
    ) (record {
      middle_is = c.divide-middle.ensures.middle;
      between = _;
      first = (first g a).nodes;
      second = (second g a).nodes;
    }))
