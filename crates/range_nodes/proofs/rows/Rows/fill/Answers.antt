use Rattle.std.proofs.Common.{arith, sym, length, ◌∙◌, ◌<◌}
use Rattle.std.specs.Vec.Iter.{into_iter_items}
use Rattle.range_nodes.proofs.RowMoves.{filled_more}
use Rattle.range_nodes.proofs.rows.Rows.fill.Goals as goal

pub loop-index-preserved : goal.loop-index-preserved
loop-index-preserved g c =
    let was = c.loop-index.invariant in
    let within : c.loop-index.index < length (into_iter_items c.args.items.now) =
    omega (arith, c.loop-index-test.true, c.requires.enough) in
    let more = filled_more c.args.self.now c.loop-index.self c.args.number c.loop-index.index
    (into_iter_items c.args.items.now) (into_iter_items c.next_item-item.new.items)
    c.next_item-item.result c.requires.number within was.rows
    (sym was.rest ∙ c.next_item-item.ensures) in
    record { rows = c.put.ensures ∙ more.0; rest = more.1 }
