use Rattle.std.proofs.Common.{arith}
use Rattle.range_nodes.proofs.RowItems.{row_read, row_written, segment_within}
use Rattle.range_nodes.proofs.rows.Rows.put.Goals as goal

pub index_mut-requires : goal.index_mut-requires
index_mut-requires g c =
    omega (
      arith,
      segment_within _ c.self.invariant _ c.self.view_is c.args.number c.requires.number,
      c.self.inside.segments.ok.0,
    )

pub put-requires-clause-within : goal.put-requires-clause-within
put-requires-clause-within g c =
    rw (row_read _ c.self.invariant _ c.self.view_is c.args.number c.requires.number _ c.index_mut.ensures.value) c.requires.within

pub put-requires-clause-room : goal.put-requires-clause-room
put-requires-clause-room g c =
    rw (row_read _ c.self.invariant _ c.self.view_is c.args.number c.requires.number _ c.index_mut.ensures.value) c.requires.room

pub returns : goal.returns
returns g c =
    let read = row_read _ c.self.invariant _ c.self.view_is c.args.number c.requires.number _ c.index_mut.ensures.value in
    row_written _ c.self.invariant _ c.self.view_is c.args.number c.requires.number _ c.index_mut.ensures.value _ _ (rw read at c.put.ensures)
