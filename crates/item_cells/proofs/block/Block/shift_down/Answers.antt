use Rattle.std.proofs.Common.{◌+◌, arith, ◌∙◌}
use Rattle.item_cells.proofs.block.Block.shift_down.Goals as goal

pub take-item-requires : goal.take-item-requires
take-item-requires g c =
    let k = c.loop-at.at + 1 in
    let held = c.requires.filled k (omega (arith, c.loop-at.auto.at))
    (omega (arith, c.loop-at-test.true)) in
    (held.0, c.loop-at.invariant.above k (omega arith) ∙ held.1)
