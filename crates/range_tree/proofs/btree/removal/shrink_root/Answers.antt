use Rattle.std.proofs.Common.{arith}
use Rattle.range_tree.proofs.Roots.{empty_root_leaves_nothing, only_child_is_root, lowered_edge}
use Rattle.range_tree.proofs.btree.removal.shrink_root.Goals as goal

pub returns-then-levels-eq1-clause-tree : goal.returns-then-levels-eq1-clause-tree
returns-then-levels-eq1-clause-tree g c = (empty_root_leaves_nothing c.args.levels
    c.if-levels-eq1.true c.requires.tree (omega (arith, c.item_count.ensures))
    c.remove_node.ensures).0

pub returns-then-levels-eq1-clause-items : goal.returns-then-levels-eq1-clause-items
returns-then-levels-eq1-clause-items g c = (empty_root_leaves_nothing c.args.levels
    c.if-levels-eq1.true c.requires.tree (omega (arith, c.item_count.ensures))
    c.remove_node.ensures).1

pub returns : goal.returns
returns g c =
    let only = only_child_is_root c.args.levels c.if-levels-eq1.false c.requires.tree
    (omega (arith, c.item_count.ensures)) c.remove_node-2.ensures in
    let lowered = lowered_edge c.args.levels c.args.edge c.if-levels-eq1.false c.requires.tree
    (omega (arith, c.item_count.ensures)) c.remove_node-2.ensures c.requires.edge in
    grind arith
