use Rattle.std.proofs.Common.{◌≡◌, ◌+◌, ◌-◌, ◌<◌, length, ◌∙◌, arith}
use Rattle.std.proofs.lemmas.List.Edits.{length-remove}
use Rattle.range_nodes.specs.Heap.{node_items, node_child}
use Rattle.range_nodes.specs.declared.nodes.TheConstants.{MIN_LEN}
use Rattle.range_tree.specs.Nodes.{before_child}
use Rattle.range_tree.specs.Edges.{turn, inside, offset}
use Rattle.range_tree.proofs.Edges.{leaf_is, leaf_edge, leaf_index, leaf_place}
use Rattle.range_tree.proofs.Growing.{kid_owned}
use Rattle.range_tree.proofs.InLeaf.{no_child_gone}
use Rattle.range_tree.proofs.Rank.{kid_shaped}
use Rattle.range_tree.proofs.Seats.{seat_place_inner}
use Rattle.range_tree.proofs.Shortening.{leaf_shrinks, kid_kept, kid_front, kid_may_be_rebalanced, lists_shorter, shorter_child_shrinks_node}
use Rattle.range_tree.proofs.Paths.{level_of_children, child_within, below_kid, below_turn, below_inside, below_here, below_most}
use Rattle.range_tree.proofs.btree.removal.+remove_below.Goals as goal

pub take_beside-item-requires-clause-within : goal.take_beside-item-requires-clause-within
take_beside-item-requires-clause-within g t c =
    grind (arith, leaf_index)

pub returns-then-below-eq0 : goal.returns-then-below-eq0
returns-then-below-eq0 g t c =
    let s = c.args.nodes.now in
    let is = rw c.if-below-eq0.true at c.requires.edge in
    let shaped = rw c.if-below-eq0.true at c.requires.shaped in
    let owned = rw c.if-below-eq0.true at c.requires.owned in
    let index = leaf_index s c.args.number c.args.edge is in
    let within : c.args.edge.index - 1 < length (node_items s c.args.number) =
    omega (arith, index, c.requires.in_leaf) in
    record {
      item = rw (leaf_is s c.args.number c.args.edge is) c.take_beside-item.ensures.item;
      shrinks = rw (c.if-below-eq0.true, leaf_place s c.args.number c.args.edge)
          (leaf_shrinks (c.args.edge.index - 1) shaped owned within
          (rw (no_child_gone _ shaped.node.branches) at c.take_beside-item.ensures.rest));
      edge = grind (arith, leaf_edge, length-remove);
      offset = rw c.if-below-eq0.true (omega (arith, leaf_place));
    }

pub child_at-child-requires-clause-within : goal.child_at-child-requires-clause-within
child_at-child-requires-clause-within g t c =
    grind (arith, child_within, below_turn)

pub remove_below-taken-requires : goal.remove_below-taken-requires
remove_below-taken-requires g t c κs inside =
    let low = below_turn c.if-below-eq0.false c.requires.shaped c.args.edge c.requires.edge in
    let kid = below_kid c.if-below-eq0.false c.requires.shaped (turn c.args.edge) low in
    grind (arith, below_inside, level_of_children, kid_owned, child_within)

pub rebalance-edge-requires : goal.rebalance-edge-requires
rebalance-edge-requires g t c =
    let i = turn c.args.edge in
    let low = below_turn c.if-below-eq0.false c.requires.shaped c.args.edge c.requires.edge in
    let back = level_of_children c.if-below-eq0.false c.requires.shaped in
    let child = rw (c.child_at-child.ensures, c.first_turn-index.ensures, c.seen_inside.ensures) at
    c.remove_below-taken.ensures.shrinks in
    let anew = lists_shorter c.if-below-eq0.false c.requires.shaped c.requires.owned low child in
    let enough =
    (kid_shaped (c.args.below - 1) i (rw (← back) at c.requires.shaped) low).node.enough in
    let short = kid_may_be_rebalanced anew (child.shape (MIN_LEN - 1) (omega (arith, enough))) in
    grind (arith, kid_kept)

pub returns : goal.returns
returns g t c =
    let i = turn c.args.edge in
    let low = below_turn c.if-below-eq0.false c.requires.shaped c.args.edge c.requires.edge in
    let back = level_of_children c.if-below-eq0.false c.requires.shaped in
    let child = rw (c.child_at-child.ensures, c.first_turn-index.ensures, c.seen_inside.ensures) at
    c.remove_below-taken.ensures.shrinks in
    let anew = lists_shorter c.if-below-eq0.false c.requires.shaped c.requires.owned low child in
    let at = rw (c.child_at-child.ensures, c.first_turn-index.ensures, c.seen_inside.ensures) at
    c.remove_below-taken.ensures.offset in
    let within = below_most c.if-below-eq0.false c.requires.shaped i (inside c.args.edge) low
    (below_inside c.if-below-eq0.false c.requires.shaped c.args.edge c.requires.edge) in
    let here = below_here c.if-below-eq0.false c.requires.shaped c.args.edge in
    let place' = rw c.first_turn-index.ensures at c.rebalance-edge.ensures.offset in
    let seat =
    rw back at (place'
    ∙ seat_place_inner c.remove_below-taken.new.nodes
    (c.args.below - 1) _ _ i c.remove_below-taken.result.edge) in
    let kid = rw (kid_kept anew) at seat in
    let front = rw (kid_kept anew) at (kid_front anew) in
    let q =
    offset c.args.nodes.now (c.args.below - 1)
    (node_child c.args.nodes.now c.args.number (turn c.args.edge)) (inside c.args.edge) in
    let same : length (before_child c.args.nodes.now c.args.below c.args.number i) + (q - 1)
    ≡ offset c.args.nodes.now c.args.below c.args.number c.args.edge - 1 = omega (arith, here, at) in
    grind (arith, shorter_child_shrinks_node)
