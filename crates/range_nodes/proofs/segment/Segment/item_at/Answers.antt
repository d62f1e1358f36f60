use Rattle.std.proofs.Common.{sym, arith, ◌∙◌}
use Rattle.range_nodes.specs.Rows.{row_of}
use Rattle.range_nodes.proofs.RowCells.{cell_read}
use Rattle.range_nodes.proofs.Segments.{filled_at, seen}
use Rattle.range_nodes.proofs.segment.Segment.item_at.Goals as goal

pub overflow_add-row : goal.overflow_add-row
overflow_add-row g c =
    let laid = (seen c.self.invariant c.self.view_is).laid in
    omega (arith, laid.fits c.args.row, c.requires.row, c.requires.within)

pub get-requires : goal.get-requires
get-requires g c =
    filled_at (seen c.self.invariant c.self.view_is).laid c.args.row c.args.index c.requires.within

pub returns : goal.returns
returns g c =
    let laid = (seen c.self.invariant c.self.view_is).laid in
    cell_read (row_of c.args.self.now c.args.row) c.args.index c.requires.within c.get.result.now
    (sym (laid.held c.args.row c.args.index
    (omega (arith, laid.fits c.args.row, c.requires.within))) ∙ c.get.ensures)
