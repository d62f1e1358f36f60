use Rattle.std.proofs.Common.{ap, length, arith}
use Rattle.range_tree.proofs.Levels.{has_levels}
use Rattle.range_tree.proofs.Rank.{IsTree-none, items_below_none}
use Rattle.range_tree.proofs.btree.BoxStorageStorage.new.Goals as goal

pub invariant_of-result : goal.invariant_of-result
invariant_of-result g c =
    let none = ap length (items_below_none c.new.result 0) in
    let tree = IsTree-none c.new.result 0 c.new.ensures.empty in
    grind (arith, has_levels)
