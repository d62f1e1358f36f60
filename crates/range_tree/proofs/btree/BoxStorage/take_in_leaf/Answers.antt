use Rattle.std.proofs.Common.{◌≡◌, ◌-◌, ◌+◌, length, refl, arith}
use Rattle.std.specs.List.{remove}
use Rattle.std.proofs.lemmas.List.Edits.{length-remove}
use Rattle.range_tree.specs.Holding.{box_items, box_offset}
use Rattle.range_tree.specs.Nodes.{IsRoomy}
use Rattle.range_nodes.specs.Heap.{Writes, node_children, node_items}
use Rattle.range_tree.proofs.EndLeaves.{leaf_keeps_ends}
use Rattle.range_tree.proofs.InLeaf.{no_child_gone, place_index}
use Rattle.range_tree.proofs.InPlace.{IsLeafChange, take_from_leaf}
use Rattle.range_tree.proofs.RootGrowth.{grown_whole}
use Rattle.range_tree.proofs.Roots.{loosened_items}
use Rattle.range_tree.proofs.Whole.{edge_within, leaf_item, tree_is_not_too_deep, tree_leaf}
use Rattle.range_tree.proofs.btree.BoxStorage.take_in_leaf.Goals as goal
use Rattle.range_tree.proofs.btree.BoxStorage.take_in_leaf.Given.{Over}
use Rattle.range_tree.proofs.btree.BoxStorage.take_in_leaf.Goals.{Start, After-take_beside-item, After-shrink_root-shrunk}

-- how many items are left
fewer : (g : Over) (c : Start g)
    → length (remove (box_items c.args.self.now) (box_offset c.args.self.now c.args.edge - 1)) + 1
    ≡ length (box_items c.args.self.now)
fewer g c = grind (arith, edge_within, length-remove, place_index)

pub item_count-requires : goal.item_count-requires
item_count-requires g c = (tree_leaf c.requires.edge).present

-- from a leaf with an item to spare
pub take_beside-item-requires-clause-within : goal.take_beside-item-requires-clause-within
take_beside-item-requires-clause-within g c =
    grind (arith, tree_leaf)

written : (g : Over) (c : After-take_beside-item g)
    → Writes c.args.self.now.nodes c.take_beside-item.new.self c.args.edge.leaf
    (remove (node_items c.args.self.now.nodes c.args.edge.leaf) (c.args.edge.index - 1))
    (node_children c.args.self.now.nodes c.args.edge.leaf)
written g c = grind (arith, no_child_gone, tree_leaf)

taken : (g : Over) (c : After-take_beside-item g)
    → IsLeafChange c.take_beside-item.new.self c.requires.edge
    (remove (box_items c.args.self.now) (box_offset c.args.self.now c.args.edge - 1))
    (record { leaf = c.args.edge.leaf; path = c.args.edge.path; index = c.args.edge.index - 1 })
    (c.args.edge.index - 1)
taken g c = take_from_leaf c.take_beside-item.new.self c.requires.edge _ (omega arith)
    c.requires.in_leaf (written g c) refl refl refl

pub invariant_of-self : goal.invariant_of-self
invariant_of-self g c =
    let s = c.args.self.now in
    let at = goal.at.invariant_of-self g c in
    let taken = taken g at.After-take_beside-item in
    let back = fewer g at.Start in
    let whole = grown_whole (s.len - 1)
    (record { tree = taken.tree; items_are = taken.items_are }) (omega (arith, back, s.counted))
    (omega (arith, back, s.whole.fits, taken.capacity)) (omega (arith, back, s.whole.counted)) in
    record {
      whole = whole.0;
      counted = whole.1;
      levelled = whole.2;
      ended = leaf_keeps_ends (written g at.After-take_beside-item) s.ended;
    }

pub returns-then-item_count-gt-MIN_LEN : goal.returns-then-item_count-gt-MIN_LEN
returns-then-item_count-gt-MIN_LEN g c =
    grind (arith, taken, leaf_item)

-- below the root
pub remove_below-taken-requires-clause-deep : goal.remove_below-taken-requires-clause-deep
remove_below-taken-requires-clause-deep g c =
    grind (arith, tree_is_not_too_deep)

pub invariant_of-self-then-self-eq0 : goal.invariant_of-self-then-self-eq0
invariant_of-self-then-self-eq0 g c = grind (arith, fewer, grown_whole, loosened_items)

pub end_leaves-self-requires-clause-deep : goal.end_leaves-self-requires-clause-deep
end_leaves-self-requires-clause-deep g c =
    let levels = c.shrink_root-shrunk.result.levels in
    let roomy : IsRoomy c.shrink_root-shrunk.new.nodes levels c.shrink_root-shrunk.result.root =
    grind (arith, fewer, grown_whole, loosened_items) in
    tree_is_not_too_deep levels roomy

pub invariant_of-self-2 : goal.invariant_of-self-2
invariant_of-self-2 g c = grind (arith, fewer, grown_whole, loosened_items)

pub returns-then-self-eq0-clause-removed : goal.returns-then-self-eq0-clause-removed
returns-then-self-eq0-clause-removed g c =
    grind (arith, leaf_item)

pub returns-clause-removed : goal.returns-clause-removed
returns-clause-removed g c =
    grind (arith, leaf_item)
