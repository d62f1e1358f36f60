use Rattle.std.proofs.Common.{arith}
use Rattle.range_nodes.proofs.RowItems.{row_read, row_written, segment_within}
use Rattle.range_nodes.proofs.rows.Rows.take.Goals as goal

pub index_mut-requires : goal.index_mut-requires
index_mut-requires g c =
    omega (
      arith,
      segment_within _ c.self.invariant _ c.self.view_is c.args.number c.requires.number,
      c.self.inside.segments.ok.0,
    )

pub take-requires-clause-within : goal.take-requires-clause-within
take-requires-clause-within g c =
    rw (row_read _ c.self.invariant _ c.self.view_is c.args.number c.requires.number _ c.index_mut.ensures.value) c.requires.within

pub returns-clause-item : goal.returns-clause-item
returns-clause-item g c =
    rw (row_read _ c.self.invariant _ c.self.view_is c.args.number c.requires.number _ c.index_mut.ensures.value) at c.take.ensures.item

pub returns-clause-rest : goal.returns-clause-rest
returns-clause-rest g c =
    let read = row_read _ c.self.invariant _ c.self.view_is c.args.number c.requires.number _ c.index_mut.ensures.value in
    row_written _ c.self.invariant _ c.self.view_is c.args.number c.requires.number _ c.index_mut.ensures.value _ _ (rw read at c.take.ensures.rest)
