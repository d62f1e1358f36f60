use Rattle.std.proofs.Common.{arith}
use Rattle.std.proofs.lemmas.List.{length_push}
use Rattle.std.proofs.lemmas.List.Edits.{insert_end}
use Rattle.range_store.proofs.Moved.{moved_more, moved_after}
use Rattle.range_tree.proofs.Positions.{end_place}
use Rattle.range_tree.proofs.btree.BoxStorageStorage.append.Goals as goal

pub loop-item-preserved : goal.loop-item-preserved
loop-item-preserved g c =
    grind (arith, end_place, insert_end, length_push, moved_more, moved_after)
