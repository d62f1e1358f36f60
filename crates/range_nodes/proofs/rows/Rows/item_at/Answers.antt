use Rattle.std.proofs.Common.{arith}
use Rattle.range_nodes.proofs.RowItems.{row_read, segment_within}
use Rattle.range_nodes.proofs.rows.Rows.item_at.Goals as goal

pub index-requires : goal.index-requires
index-requires g c =
    omega (
      arith,
      segment_within _ c.self.invariant _ c.self.view_is c.args.number c.requires.number,
      c.self.inside.segments.ok.0,
    )

pub item_at-requires-clause-within : goal.item_at-requires-clause-within
item_at-requires-clause-within g c =
    rw (row_read _ c.self.invariant _ c.self.view_is c.args.number c.requires.number _ c.index.ensures) c.requires.within

pub returns : goal.returns
returns g c =
    rw (row_read _ c.self.invariant _ c.self.view_is c.args.number c.requires.number _ c.index.ensures) at c.item_at.ensures
