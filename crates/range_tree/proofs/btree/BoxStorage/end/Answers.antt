use Rattle.std.proofs.Common.{arith}
use Rattle.range_tree.proofs.EndLeaves.{box_end}
use Rattle.range_tree.proofs.Whole.{tree_leaf}
use Rattle.range_tree.proofs.btree.BoxStorage.end.Goals as goal

pub item_count-requires : goal.item_count-requires
item_count-requires g c =
    (tree_leaf (box_end c.args.self.now (omega (arith, c.if-self-eq0.false))).0).present

pub returns : goal.returns
returns g c =
    rw c.item_count.ensures (box_end c.args.self.now (omega (arith, c.if-self-eq0.false)))
