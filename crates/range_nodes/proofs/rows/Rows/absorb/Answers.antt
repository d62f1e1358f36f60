use Rattle.std.proofs.Common.{◌∙◌}
use Rattle.range_nodes.proofs.RowMoves.{absorbed}
use Rattle.range_nodes.proofs.rows.Rows.absorb.Goals as goal

pub returns : goal.returns
returns g c =
    c.move_end.ensures
    ∙ absorbed c.args.self.now c.put.new.self c.args.left c.args.right c.row_len-len.result
    c.args.middle c.requires.left c.requires.apart c.row_len-len.ensures.len c.put.ensures
