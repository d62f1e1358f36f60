use Rattle.std.proofs.Common.{◌+◌, refl, arith}
use Rattle.range_tree.specs.Written.{root_shaped}
use Rattle.range_tree.proofs.InLeaf.{place_index}
use Rattle.range_tree.proofs.Positions.{next_from}
use Rattle.range_tree.proofs.Whole.{tree_beside, tree_is_not_too_deep, tree_leaf}
use Rattle.range_tree.proofs.btree.BoxStorage.following.Goals as goal

pub item_count-requires : goal.item_count-requires
item_count-requires g c = (tree_leaf c.requires).present

pub returns-then-edge-item_count : goal.returns-then-edge-item_count
returns-then-edge-item_count g c =
    let next = tree_beside c.requires
    (record {
      leaf = c.args.edge.leaf;
      path = c.args.edge.path;
      index = c.args.edge.index + 1;
    }) refl refl (omega (arith, c.if-edge-item_count.true, c.item_count.ensures)) in
    (next.0, omega (arith, next.1))

pub around_leaf-requires : goal.around_leaf-requires
around_leaf-requires g c =
    grind (arith, root_shaped, tree_is_not_too_deep, place_index, tree_leaf)

pub returns : goal.returns
returns g c =
    grind (arith, tree_leaf, next_from)
