use Rattle.btree_range_map.specs.Holding.{box_items}
use Rattle.least_covers.specs.Trees.{IsBlock}
use Rattle.address_covers.proofs.Prefixes.{all_at, one_more}
use Rattle.address_covers.proofs.blocks.set_of.Goals as goal

pub add_block-requires-clause-block : goal.add_block-requires-clause-block
add_block-requires-clause-block g c =
    all_at (IsBlock g.A.Address.WIDTH) c.args.blocks.now c.loop-block.block-index
    (record { network = 0; length = 0 }) c.requires.blocks c.loop-block-test.true

pub loop-block-preserved : goal.loop-block-preserved
loop-block-preserved g c =
    one_more g.A.MaybeBounded.order g.A.Address.at g.A.Address.WIDTH (box_items c.loop-block.set)
    (box_items c.add_block.new.set) c.args.blocks.now c.loop-block.block-index
    (record { network = 0; length = 0 }) c.loop-block-test.true c.loop-block.invariant
    c.in_ok-add_block.ensures
