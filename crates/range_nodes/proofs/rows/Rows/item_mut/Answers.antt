use Rattle.std.proofs.Common.{arith, refl}
use Rattle.range_nodes.proofs.RowItems.{row_read, row_written, segment_within}
use Rattle.range_nodes.proofs.rows.Rows.item_mut.Goals as goal

pub index_mut-requires : goal.index_mut-requires
index_mut-requires g c =
    omega (
      arith,
      segment_within _ c.self.invariant _ c.self.view_is c.args.number c.requires.number,
      c.self.inside.segments.ok.0,
    )

pub item_mut-requires-clause-within : goal.item_mut-requires-clause-within
item_mut-requires-clause-within g c =
    rw (row_read _ c.self.invariant _ c.self.view_is c.args.number c.requires.number _ c.index_mut.ensures.value) c.requires.within

pub returns : goal.returns
returns g c =
    let read = row_read _ c.self.invariant _ c.self.view_is c.args.number c.requires.number _ c.index_mut.ensures.value in (
      (refl, λ w. row_written _ c.self.invariant _ c.self.view_is c.args.number c.requires.number _ c.index_mut.ensures.value _ _ (rw read refl)),
      record { writes_back = tt; value = rw read at c.item_mut.ensures.value },
    )
