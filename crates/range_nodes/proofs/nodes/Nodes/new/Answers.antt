use Rattle.std.proofs.Common.{length, ap, arith, refl}
use Rattle.range_nodes.specs.Spares.{contents, without}
use Rattle.range_nodes.proofs.Spares.{none_whole}
use Rattle.range_nodes.proofs.nodes.Nodes.new.Goals as goal

pub invariant_of-result : goal.invariant_of-result
invariant_of-result g c = (
  none_whole c.new.result.lists c.new-2.result c.new-3.result.items c.new.ensures c.new-2.ensures
      c.new-3.ensures.items,
  omega (arith, ap length c.new.ensures),
)

pub returns-clause-empty : goal.returns-clause-empty
unfolding without contents
returns-clause-empty g c =
    rw (c.new-3.ensures.items, c.new.ensures) refl
