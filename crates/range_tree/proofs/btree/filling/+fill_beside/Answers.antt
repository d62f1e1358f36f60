use Rattle.std.proofs.Common.{◌≡◌, ◌+◌, ◌-◌, ◌<◌, ◌≤◌, length, refl, ◌∙◌, arith}
use Rattle.range_nodes.specs.Heap.{node_child, node_items}
use Rattle.range_nodes.specs.declared.nodes.TheConstants.{CAPACITY}
use Rattle.range_tree.specs.Edges.{turn}
use Rattle.range_tree.proofs.Edges.{path_small}
use Rattle.range_tree.proofs.Filling.{refilled, refilled_edge}
use Rattle.range_tree.proofs.Growing.{kid_owned}
use Rattle.range_tree.proofs.Paths.{level_of_children, child_within, below_kid, below_turn, below_inside}
use Rattle.range_tree.proofs.btree.filling.+fill_beside.Goals as goal

pub child_at-child-requires-clause-within : goal.child_at-child-requires-clause-within
child_at-child-requires-clause-within g t c =
    grind (arith, below_turn, child_within)

pub fill_beside-inner-requires : goal.fill_beside-inner-requires
fill_beside-inner-requires g t c κs inside =
    let low = below_turn c.if-below-eq0.false c.requires.shaped c.args.edge c.requires.edge in
    let kid = below_kid c.if-below-eq0.false c.requires.shaped (turn c.args.edge) low in
    grind (arith, below_inside, level_of_children, kid_owned, child_within)

pub seen_above-requires : goal.seen_above-requires
seen_above-requires g t c =
    let low = below_turn c.if-below-eq0.false c.requires.shaped c.args.edge c.requires.edge in
    record {
      index = omega (arith, low, c.first_turn-index.ensures, c.requires.shaped.node.fits);
      path = path_small c.fill_beside-inner.new.nodes (c.args.below - 1) c.child_at-child.result
          c.fill_beside-inner.result (omega (arith, c.requires.deep))
          c.fill_beside-inner.ensures.edge;
    }

pub returns-then-below-gt1 : goal.returns-then-below-gt1
returns-then-below-gt1 g t c =
    let low = below_turn c.if-below-eq0.false c.requires.shaped c.args.edge c.requires.edge in
    let child = c.child_at-child.ensures in
    let refills = rw (child, c.first_turn-index.ensures) at c.fill_beside-inner.ensures.refills in
    let is = rw (child, c.first_turn-index.ensures) at c.fill_beside-inner.ensures.edge in
    let same = rw (child, c.first_turn-index.ensures, c.seen_inside.ensures) at
    c.fill_beside-inner.ensures.offset in
    let edge = refilled_edge c.args.below (turn c.args.edge) c.if-below-eq0.false c.requires.shaped
    c.requires.owned low refills c.args.edge c.fill_beside-inner.result c.seen_above.result
    refl (c.seen_above.ensures.turn ∙ c.first_turn-index.ensures) c.seen_above.ensures.inside is same in
    record {
      refills = refilled c.args.below (turn c.args.edge) c.if-below-eq0.false c.requires.shaped
          c.requires.owned low refills;
      edge = edge.0;
      offset = edge.1;
    }
