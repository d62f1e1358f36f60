use Rattle.std.proofs.Common.{arith}
use Rattle.range_nodes.proofs.RowItems.{joined_none}
use Rattle.range_nodes.proofs.rows.Rows.new.Goals as goal

pub returns : goal.returns
returns g c = grind (arith, joined_none)
