use Rattle.std.proofs.Common.{◌≡◌, length, arith, ◌∙◌}
use Rattle.range_nodes.specs.Rows.{row_of}
use Rattle.item_cells.specs.declared.memory.TheConstants.{CELLS}
use Rattle.range_nodes.proofs.Segments.{all_empty, bare_more, filled, kept_still, lens_at}
use Rattle.range_nodes.proofs.segment.drop_rows.Goals as goal

pub drop_items-requires-clause-within : goal.drop_items-requires-clause-within
drop_items-requires-clause-within g c =
    let many = lens_at c.requires c.loop-row.row in
    let few = c.requires.laid.fits c.loop-row.row in
    let long = c.requires.laid.len in
    let all = c.requires.many in
    grind arith

pub drop_items-requires-clause-filled : goal.drop_items-requires-clause-filled
drop_items-requires-clause-filled g c k low high =
    let many = lens_at c.requires c.loop-row.row in
    let held = filled c.requires.laid c.loop-row.row k low (grind arith) in
    (held.0, c.loop-row.invariant.kept k low ∙ held.1)

pub loop-row-preserved : goal.loop-row-preserved
loop-row-preserved g c =
    let n = c.loop-row.row in
    let was = c.loop-row.invariant in
    let many : c.from.result ≡ length (row_of c.requires.rows n) =
    c.from.ensures ∙ lens_at c.requires n in
    let dropped = rw many at c.drop_items.ensures.dropped in
    let others = rw many at c.drop_items.ensures.others in
    record {
      emptied = bare_more c.requires.laid n was.emptied was.kept dropped others;
      kept = kept_still c.requires.laid n was.emptied was.kept dropped others;
      len = others.len ∙ was.len;
    }

pub returns : goal.returns
returns g c =
    let was = c.loop-row.invariant in
    all_empty c.loop-row.cells CELLS
    (omega (arith, was.len, c.requires.laid.len, c.requires.many))
    (λ k less. was.emptied k (omega (arith, less, c.loop-row-test.false)))
