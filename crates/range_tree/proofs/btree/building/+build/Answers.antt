use Rattle.std.proofs.Common.{◌≡◌, ◌-◌, ◌/◌, ◌<◌, ◌∷◌, suc, length, ap, arith, length-append, length-take-le, take-append-drop}
use Rattle.std.specs.Vec.Iter.{into_iter_items}
use Rattle.range_tree.specs.Nodes.{items_below}
use Rattle.range_nodes.specs.declared.nodes.TheConstants.{CAPACITY}
use Rattle.range_tree.proofs.Building.{begun_above, built_child, built_leaf, child_level, child_listed, child_more, listed_above, node_fits, node_length, node_there, taken_more}
use Rattle.range_tree.proofs.Shares.{branch_is, cut_enough, first_share, leaf_cut, leaf_width, next_share}
use Rattle.range_tree.proofs.btree.building.+build.Goals as goal

pub returns-then-below-eq0 : goal.returns-then-below-eq0
returns-then-below-eq0 g t c =
    let one = leaf_width c.if-below-eq0.true c.requires.width in
    let cut = leaf_cut c.args.count c.if-below-eq0.true c.requires.width in
    let all = into_iter_items c.args.items.now in
    let many = length-take-le c.args.count all c.requires.enough in
    grind (arith, built_leaf, take-append-drop)

pub build-first-requires : goal.build-first-requires
build-first-requires g t c κs inside =
    let some : 0 < c.args.below = omega (arith, c.if-below-eq0.false) in
    let branch = branch_is some c.requires.width c.requires.least c.requires.most in
    let share = first_share branch in
    grind (arith, cut_enough)

pub store_above-number-requires : goal.store_above-number-requires
store_above-number-requires g t c =
    let some : 0 < c.args.below = omega (arith, c.if-below-eq0.false) in
    let branch = branch_is some c.requires.width c.requires.least c.requires.most in
    let share = first_share branch in
    let enough = cut_enough branch.some share.enough in
    let child = built_child c.args.below some c.build-first.ensures.built enough
    c.build-first.ensures.size in
    omega (arith, child.few, child.moved.capacity, c.requires.room, share.within, branch.within)

pub loop-index-init : goal.loop-index-init
loop-index-init g t c =
    let some : 0 < c.args.below = omega (arith, c.if-below-eq0.false) in
    let branch = branch_is some c.requires.width c.requires.least c.requires.most in
    let share = first_share branch in
    let first = c.build-first.new.nodes in
    let enough = cut_enough branch.some share.enough in
    let child = built_child c.args.below some c.build-first.ensures.built enough
    c.build-first.ensures.size in
    let listed = listed_above c.args.below c.build-first.result some child.moved child.shaped
    c.store_above-number.ensures in
    let none : c.args.count / c.args.width - 0 ≡ c.args.count / c.args.width = omega arith in
    record {
      built = begun_above c.args.below c.build-first.result some child.moved child.shaped
          c.store_above-number.ensures;
      listed =
          grind (arith, child_level);
      size = omega (arith, ap length listed, child.size, share.within, branch.within);
      shares = rw none share.others_can;
      room = omega arith;
    }

pub build-child-requires : goal.build-child-requires
build-child-requires g t c κs inside =
    let some : 0 < c.args.below = omega (arith, c.if-below-eq0.false) in
    let was = c.loop-index.invariant in
    let branch = branch_is some c.requires.width c.requires.least c.requires.most in
    let share = next_share c.loop-index.index c.loop-index-test.true was.shares in grind (
      arith,
      length-append,
      cut_enough,
    )

pub put-requires : goal.put-requires
put-requires g t c =
    let some : 0 < c.args.below = omega (arith, c.if-below-eq0.false) in
    let was = c.loop-index.invariant in
    let branch = branch_is some c.requires.width c.requires.least c.requires.most in
    let share = next_share c.loop-index.index c.loop-index-test.true was.shares in
    let enough = cut_enough branch.some share.enough in
    let child = built_child c.args.below some c.build-child.ensures.built enough
    c.build-child.ensures.size in
    let items = node_length c.build-child.result some was.built child.moved in
    record {
      present = node_there c.build-child.result some was.built child.moved;
      within = omega (arith, items);
      near = omega (arith, items);
      room = omega (arith, items, branch.cut.few, c.loop-index-test.true);
      child = node_fits c.build-child.result some was.built child.moved;
    }

pub loop-index-preserved : goal.loop-index-preserved
loop-index-preserved g t c =
    let some : 0 < c.args.below = omega (arith, c.if-below-eq0.false) in
    let was = c.loop-index.invariant in
    let branch = branch_is some c.requires.width c.requires.least c.requires.most in
    let share = next_share c.loop-index.index c.loop-index-test.true was.shares in
    let now = c.loop-index.nodes in
    let new = c.build-child.new.nodes in
    let enough = cut_enough branch.some share.enough in
    let child = built_child c.args.below some c.build-child.ensures.built enough
    c.build-child.ensures.size in
    let number = c.store_above-number.result in
    let room : c.loop-index.index < CAPACITY =
    omega (arith, branch.cut.few, c.loop-index-test.true) in
    let front = items_below now (suc c.args.below) number in
    let middle = items_below new c.args.below c.build-child.result in
    let listed = child_listed c.build-child.result some was.built child.moved
    c.next_item-item.result room child.shaped c.put.ensures
    in
    record {
      built = child_more c.build-child.result some was.built child.moved c.next_item-item.result
          room child.shaped c.put.ensures;
      listed =
          grind (arith, taken_more, child_level);
      size =
          omega (arith, ap length listed, length-append front (c.next_item-item.result ∷ middle));
      shares = share.others_can;
      room = omega arith;
    }
