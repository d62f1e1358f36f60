use Rattle.std.proofs.Common.{arith}
use Rattle.range_nodes.proofs.Spares.{counted}
use Rattle.range_nodes.proofs.nodes.Nodes.len.Goals as goal

pub overflow_sub-result : goal.overflow_sub-result
overflow_sub-result g c =
    grind (arith, counted)

pub returns : goal.returns
returns g c =
    grind (arith, counted)
