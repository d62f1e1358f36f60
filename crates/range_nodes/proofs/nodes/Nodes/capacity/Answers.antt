use Rattle.std.proofs.Common.{arith}
use Rattle.range_nodes.proofs.Spares.{counted}
use Rattle.range_nodes.proofs.nodes.Nodes.capacity.Goals as goal

pub returns-clause-holds_all : goal.returns-clause-holds_all
returns-clause-holds_all g c =
    rw (← c.self.view_is) (omega (arith, counted c.self.invariant.0, c.len.ensures))
