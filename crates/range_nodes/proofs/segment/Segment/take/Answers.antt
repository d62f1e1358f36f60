use Rattle.std.proofs.Common.{◌+◌, ◌-◌, ◌*◌, sym, arith, ◌∙◌, None}
use Rattle.std.proofs.lemmas.List.{get_or-set_other}
use Rattle.range_nodes.specs.declared.nodes.TheConstants.{CAPACITY}
use Rattle.range_nodes.specs.Rows.{row_of}
use Rattle.range_nodes.proofs.RowCells.{cell_read}
use Rattle.range_nodes.proofs.Segments.{filled, filled_at, item_taken, seen}
use Rattle.range_nodes.proofs.segment.Segment.take.Goals as goal

pub take-item-requires : goal.take-item-requires
take-item-requires g c =
    filled_at (seen c.self.invariant c.self.view_is).laid c.args.row c.args.index c.requires.within

pub shift_down-requires-clause-filled : goal.shift_down-requires-clause-filled
shift_down-requires-clause-filled g c k low high =
    let laid = (seen c.self.invariant c.self.view_is).laid in
    let at = CAPACITY * c.args.row + c.args.index in
    let held = filled laid c.args.row k (omega (arith, low))
    (omega (arith, high, c.row_len-last.ensures.len, c.requires.within)) in (
      held.0,
      rw c.take-item.ensures.after (get_or-set_other c.self.inside.cells at k None None
          (λ is. omega (arith, is, low)) ∙ held.1),
    )

pub invariant_of-self : goal.invariant_of-self
invariant_of-self g c =
    (item_taken (seen c.self.invariant c.self.view_is) c.args.row c.args.index
    (c.row_len-last.result - 1) c.requires.row c.requires.within
    (omega (arith, c.row_len-last.ensures.len, c.requires.within))
    (rw (← c.take-item.ensures.after) c.shift_down.ensures.moved) c.shift_down.ensures.left
    (rw (← c.take-item.ensures.after) c.shift_down.ensures.others)).0

pub returns-clause-item : goal.returns-clause-item
returns-clause-item g c =
    let laid = (seen c.self.invariant c.self.view_is).laid in
    cell_read (row_of c.args.self.now c.args.row) c.args.index c.requires.within c.take-item.result
    (sym (laid.held c.args.row c.args.index
    (omega (arith, laid.fits c.args.row, c.requires.within))) ∙ c.take-item.ensures.item)

pub returns-clause-rest : goal.returns-clause-rest
returns-clause-rest g c =
    (item_taken (seen c.self.invariant c.self.view_is) c.args.row c.args.index
    (c.row_len-last.result - 1) c.requires.row c.requires.within
    (omega (arith, c.row_len-last.ensures.len, c.requires.within))
    (rw (← c.take-item.ensures.after) c.shift_down.ensures.moved) c.shift_down.ensures.left
    (rw (← c.take-item.ensures.after) c.shift_down.ensures.others)).1
