use Rattle.std.proofs.Common.{◌≡◌, ◌≢◌, ◌+◌, ◌*◌, ◌^◌, ◌<◌, ◌≤◌, length, refl, arith}
use Rattle.std.proofs.Math.Nat.{mul-le-mul_left}
use Rattle.range_nodes.specs.Heap.{node_items}
use Rattle.range_tree.proofs.Behind.{ComesAfter, leaf_end, sets_out, turn_low, goes_by_another, goes_by_the_last, comes_to_the_end, home_sets_out, home_goes_on, home_is_found}
use Rattle.range_tree.specs.Edges.{offset, home_of}
use Rattle.range_tree.proofs.InLeaf.{leaf_beside}
use Rattle.range_tree.proofs.Paths.{child_within}
use Rattle.range_tree.proofs.PathsBelow.{weight_fits}
use Rattle.range_tree.proofs.btree.path.around_any_leaf.Goals as goal
use Rattle.range_tree.proofs.btree.path.around_any_leaf.Given.{Over}
use Rattle.range_tree.proofs.btree.path.around_any_leaf.Goals.{After-first_turn-index, After-home_before-found}

pub down-init : goal.down-init
down-init g c =
    let s = c.args.nodes.now in
    let end = leaf_end s c.args.edge in
    let is = (leaf_beside s c.args.below c.args.number c.args.edge end refl refl (omega arith)
    c.requires.edge).0 in
    record {
      way = sets_out s end c.requires.shaped is;
      home = home_sets_out s c.args.edge _ c.requires.edge c.requires.some;
    }

low : (g : Over) (c : After-first_turn-index g)
    → c.first_turn-index.result ≤ length (node_items c.args.nodes.now c.down.at)
low g c = turn_low c.args.nodes.now (omega (arith, c.down-test.true)) c.down.invariant.way
    c.first_turn-index.result c.first_turn-index.ensures

pub child_at-at-requires-clause-within : goal.child_at-at-requires-clause-within
child_at-at-requires-clause-within g c =
    grind (arith, child_within, low)

small : (g : Over) (c : After-first_turn-index g)
    → c.down.path + c.down.weight * c.first_turn-index.result + c.down.weight < 2 ^ 64
small g c =
    grind (arith, weight_fits, mul-le-mul_left)

pub overflow_mul-path : goal.overflow_mul-path
overflow_mul-path g c = omega
    (arith, small g (goal.at.overflow_mul-path g c).After-first_turn-index)

pub overflow_add-path : goal.overflow_add-path
overflow_add-path g c = omega
    (arith, small g (goal.at.overflow_add-path g c).After-first_turn-index)

pub overflow_add-later : goal.overflow_add-later
overflow_add-later g c = omega
    (arith, small g (goal.at.overflow_add-later g c).After-first_turn-index)

pub overflow_mul-weight : goal.overflow_mul-weight
overflow_mul-weight g c =
    grind (arith, weight_fits)

pub down-preserved-then-index-item_count : goal.down-preserved-then-index-item_count
down-preserved-then-index-item_count g c =
    let above : c.down.left ≢ 0 = omega (arith, c.down-test.true) in
    let was = c.down.invariant in
    rw (c.child_at-at.ensures, c.seen_inside-inner.ensures, c.child_at.ensures) (record {
      way = goes_by_another c.args.nodes.now above was.way c.first_turn-index.result
          c.first_turn-index.ensures
          (omega (arith, c.if-index-item_count.true, c.item_count.ensures));
      home = home_goes_on c.args.nodes.now above was.way.lies.shaped was.home
          c.first_turn-index.result c.first_turn-index.ensures c.home_before-home.result
          c.home_before-home.ensures.none c.home_before-home.ensures.some;
    })

pub down-preserved : goal.down-preserved
down-preserved g c =
    let above : c.down.left ≢ 0 = omega (arith, c.down-test.true) in
    let was = c.down.invariant in
    rw (c.child_at-at.ensures, c.seen_inside-inner.ensures) (record {
      way = goes_by_the_last c.args.nodes.now above was.way c.first_turn-index.result
          c.first_turn-index.ensures
          (omega (arith, c.if-index-item_count.false, c.item_count.ensures));
      home = home_goes_on c.args.nodes.now above was.way.lies.shaped was.home
          c.first_turn-index.result c.first_turn-index.ensures c.home_before-home.result
          c.home_before-home.ensures.none c.home_before-home.ensures.some;
    })

home_found : (g : Over) (c : After-home_before-found g)
    → c.home_before-found.result ≡ home_of c.args.nodes.now c.args.below c.args.number c.args.edge
home_found g c = home_is_found c.args.nodes.now c.down.left c.down.at c.down.inner
    (omega (arith, c.down-test.false)) c.down.invariant.home c.home_before-found.result
    c.home_before-found.ensures.none c.home_before-found.ensures.some

comes : (g : Over) (c : After-home_before-found g)
    → ComesAfter c.args.nodes.now c.args.below c.args.number c.down.behind
    (offset c.args.nodes.now c.args.below c.args.number (leaf_end c.args.nodes.now c.args.edge))
comes g c = comes_to_the_end c.args.nodes.now c.down.left c.down.at c.down.path c.down.weight
    (leaf_end c.args.nodes.now c.down.inner) c.down.behind (omega (arith, c.down-test.false))
    c.down.invariant.way (omega arith)

pub returns-in-None : goal.returns-in-None
returns-in-None g c =
    record {
      home = home_found g (goal.at.returns-in-None g c).After-home_before-found;
      behind = rw c.in-None.is at
          (comes g (goal.at.returns-in-None g c).After-home_before-found);
    }

pub returns-in-Some : goal.returns-in-Some
returns-in-Some g c =
    let begins = rw c.in-Some.is at
    (comes g (goal.at.returns-in-Some g c).After-home_before-found) in
    grind (arith, home_found)
