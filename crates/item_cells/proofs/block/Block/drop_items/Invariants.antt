use Rattle.item_cells.specs.Cells.{AreEmpty, SameOutside}
use Rattle.item_cells.proofs.block.Block.drop_items.Given as goal

abbrev pub invariant-loop-index : goal.invariant-loop-index
invariant-loop-index g l =
    record {
      dropped : AreEmpty l.self l.fn.start l.index;
      others : SameOutside l.initial.self l.self l.fn.start l.index;
    }
