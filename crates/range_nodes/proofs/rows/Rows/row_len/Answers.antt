use Rattle.std.proofs.Common.{ap, arith, length, ◌∙◌}
use Rattle.range_nodes.proofs.RowItems.{row_read, segment_within}
use Rattle.range_nodes.proofs.rows.Rows.row_len.Goals as goal

pub index-requires : goal.index-requires
index-requires g c =
    omega (
      arith,
      segment_within _ c.self.invariant _ c.self.view_is c.args.number c.requires,
      c.self.inside.segments.ok.0,
    )

pub returns-clause-len : goal.returns-clause-len
returns-clause-len g c =
    c.row_len.ensures.len
    ∙ ap length (row_read _ c.self.invariant _ c.self.view_is c.args.number c.requires _ c.index.ensures)
