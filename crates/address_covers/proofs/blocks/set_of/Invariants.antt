use Rattle.std.proofs.Common.{take}
use Rattle.btree_range_map.specs.Holding.{box_items}
use Rattle.address_covers.specs.Blocks.{HoldsBlocks}
use Rattle.address_covers.proofs.blocks.set_of.Given as goal

-- the addresses of the blocks so far
abbrev pub invariant-loop-block : goal.invariant-loop-block
invariant-loop-block g l =
    HoldsBlocks g.A.MaybeBounded.order g.A.Address.at g.A.Address.WIDTH (box_items l.set)
    (take l.block-index l.blocks)
