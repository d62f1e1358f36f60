use Rattle.std.proofs.Common.{[], ◌∷◌, length, arith, ap}
use Rattle.std.specs.List.{insert}
use Rattle.range_nodes.proofs.Spares.{bare_row, spare_row, spares_left, stocked}
use Rattle.range_nodes.proofs.nodes.Nodes.store_leaf.Goals as goal

pub next_spare-number-requires : goal.next_spare-number-requires
next_spare-number-requires g c =
    omega (arith, spares_left c.self.invariant.0 1 (rw (← c.self.view_is) at c.requires))

pub put-requires-clause-number : goal.put-requires-clause-number
put-requires-clause-number g c =
    spare_row c.self.invariant.0 c.next_spare-number.ensures.items

pub put-requires-clause-room : goal.put-requires-clause-room
put-requires-clause-room g c =
    omega (arith, ap length (bare_row c.self.invariant.0 c.next_spare-number.ensures.items))

pub invariant_of-self : goal.invariant_of-self
invariant_of-self g c =
    let parts = c.next_spare-number.ensures.items in
    let stored = stocked c.self.invariant.0 parts (c.args.item ∷ []) in (
      rw (c.put.ensures, ap (λ xs. insert xs 0 c.args.item) (bare_row c.self.invariant.0 parts))
          stored.whole,
      omega (arith, c.self.invariant.1, c.next_spare-number.ensures.capacity),
    )

pub returns : goal.returns
returns g c =
    let parts = c.next_spare-number.ensures.items in
    let stored = stocked c.self.invariant.0 parts (c.args.item ∷ []) in
    grind (arith, bare_row c.self.invariant.0 parts)
