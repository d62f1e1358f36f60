use Rattle.std.proofs.Common.{◌-◌, arith, ◌∙◌}
use Rattle.item_cells.proofs.block.Block.shift_up.Goals as goal

pub take-item-requires : goal.take-item-requires
take-item-requires g c =
    let k = c.args.end - 1 - c.loop-count.count in
    let held = c.requires.filled k (omega (arith, c.loop-count-test.true))
    (omega (arith, c.loop-count-test.true)) in
    (held.0, c.loop-count.invariant.below k (omega (arith, c.loop-count-test.true)) ∙ held.1)
