use Rattle.std.proofs.Common.{arith}
use Rattle.range_tree.specs.Holding.{rank_is}
use Rattle.range_tree.proofs.Positions.{good_from}
use Rattle.range_tree.proofs.Paths.{not_start, stands_first}
use Rattle.range_tree.specs.Written.{root_shaped}
use Rattle.range_tree.proofs.btree.BoxStorageStorage.prev.Goals as goal

pub returns-then-stands_first : goal.returns-then-stands_first
returns-then-stands_first g c =
    grind (arith, stands_first, rank_is)

pub returns : goal.returns
returns g c =
    grind (arith, not_start, root_shaped, good_from, rank_is)
