use Rattle.std.proofs.Common.{arith}
use Rattle.address_text.proofs.Blocks.{block_fits, size_is}
use Rattle.address_text.proofs.line.block_of.Goals as goal

pub overflow_add-result : goal.overflow_add-result
overflow_add-result c =
    let shifted = c.in-Some.ensures in
    rw (size_is c.in-Some.size c.from.result c.args.free c.from.ensures shifted.0 shifted.1)
    (omega (arith, block_fits 128 c.args.free c.args.number c.requires c.ranges.number.fits))
