use Rattle.std.proofs.Common.{arith, ◌∙◌}
use Rattle.range_nodes.proofs.RowItems.{row_read, segment_within}
use Rattle.range_nodes.proofs.rows.Rows.items.Goals as goal

pub index-requires : goal.index-requires
index-requires g c =
    omega (
      arith,
      segment_within _ c.self.invariant _ c.self.view_is c.args.number c.requires,
      c.self.inside.segments.ok.0,
    )

pub returns-clause-items : goal.returns-clause-items
returns-clause-items g c =
    c.items.ensures.items
    ∙ row_read _ c.self.invariant _ c.self.view_is c.args.number c.requires _ c.index.ensures
