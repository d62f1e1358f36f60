use Rattle.std.proofs.Common.{arith, ◌∙◌, inr}
use Rattle.item_cells.proofs.block.Block.drop_items.Goals as goal

pub take-requires : goal.take-requires
take-requires g c =
    let k = c.loop-index.index in
    let held = c.requires.filled k (omega (arith, c.loop-index.auto.index)) c.loop-index-test.true in
    (held.0, c.loop-index.invariant.others.same k (inr (omega arith)) ∙ held.1)
