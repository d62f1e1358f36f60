use Rattle.std.proofs.Common.{refl, sym, arith, ◌∙◌}
use Rattle.range_nodes.specs.Rows.{row_of}
use Rattle.range_nodes.proofs.RowCells.{cell_read}
use Rattle.range_nodes.proofs.Segments.{filled_at, item_written, seen}
use Rattle.range_nodes.proofs.segment.Segment.item_mut.Goals as goal

pub overflow_add-row : goal.overflow_add-row
overflow_add-row g c =
    let laid = (seen c.self.invariant c.self.view_is).laid in
    omega (arith, laid.fits c.args.row, c.requires.row, c.requires.within)

pub get_mut-requires : goal.get_mut-requires
get_mut-requires g c =
    filled_at (seen c.self.invariant c.self.view_is).laid c.args.row c.args.index c.requires.within

pub invariant_of-self-lent : goal.invariant_of-self-lent
invariant_of-self-lent g c w =
    (item_written (seen c.self.invariant c.self.view_is) c.args.row c.args.index w c.requires.row
    c.requires.within).0

pub returns : goal.returns
returns g c =
    let now = seen c.self.invariant c.self.view_is in
    let laid = now.laid in (
      (
        refl,
        λ w. (item_written now c.args.row c.args.index w c.requires.row c.requires.within).1,
      ),
      record {
        writes_back = tt;
        value = cell_read (row_of c.args.self.now c.args.row) c.args.index c.requires.within
            c.get_mut.result.now
            (sym (laid.held c.args.row c.args.index
            (omega (arith, laid.fits c.args.row, c.requires.within)))
            ∙ c.get_mut.ensures.value);
      },
    )
