use Rattle.std.proofs.Common.{take, arith}
use Rattle.std.specs.Vec.Iter.{into_iter_items}
use Rattle.range_nodes.proofs.Spares.{bare_row, spare_row, spares_left, stocked}
use Rattle.range_nodes.proofs.nodes.Nodes.store_items.Goals as goal

pub next_spare-number-requires : goal.next_spare-number-requires
next_spare-number-requires g c =
    omega (arith, spares_left c.self.invariant.0 1 (rw (← c.self.view_is) at c.requires.room))

pub fill-requires-clause-number : goal.fill-requires-clause-number
fill-requires-clause-number g c =
    spare_row c.self.invariant.0 c.next_spare-number.ensures.items

pub fill-requires-clause-empty : goal.fill-requires-clause-empty
fill-requires-clause-empty g c = bare_row c.self.invariant.0 c.next_spare-number.ensures.items

pub invariant_of-self : goal.invariant_of-self
invariant_of-self g c =
    let stored = stocked c.self.invariant.0 c.next_spare-number.ensures.items
    (take c.args.count (into_iter_items c.args.items.now)) in (
      rw c.fill.ensures.filled stored.whole,
      omega (arith, c.self.invariant.1, c.next_spare-number.ensures.capacity),
    )

pub returns-clause-stored : goal.returns-clause-stored
returns-clause-stored g c =
    rw (← c.self.view_is, c.fill.ensures.filled)
    (stocked c.self.invariant.0 c.next_spare-number.ensures.items
    (take c.args.count (into_iter_items c.args.items.now))).nodes
