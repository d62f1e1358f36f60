use Rattle.std.proofs.Common.{arith}
use Rattle.range_nodes.proofs.RowMoves.{moved_last}
use Rattle.range_nodes.proofs.rows.Rows.move_end.Goals as goal

pub loop-left-preserved : goal.loop-left-preserved
loop-left-preserved g c =
    grind (arith, moved_last)
