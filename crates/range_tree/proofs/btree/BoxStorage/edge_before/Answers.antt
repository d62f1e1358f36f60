use Rattle.std.proofs.Common.{◌-◌, refl, arith}
use Rattle.range_tree.proofs.Whole.{tree_is_not_too_deep, tree_leaf, tree_beside}
use Rattle.range_tree.proofs.btree.BoxStorage.edge_before.Goals as goal

pub returns-then-edge-gt0 : goal.returns-then-edge-gt0
returns-then-edge-gt0 g c =
    let back = tree_beside c.requires
    (record {
      leaf = c.args.edge.leaf;
      path = c.args.edge.path;
      index = c.args.edge.index - 1;
    }) refl refl (omega (arith, (tree_leaf c.requires).within)) in
    (back.0, omega (arith, back.1, c.if-edge-gt0.true))

pub preceding-requires-clause-deep : goal.preceding-requires-clause-deep
preceding-requires-clause-deep g c =
    grind (arith, tree_is_not_too_deep)
