use Rattle.std.proofs.Common.{◌≡◌, ◌≤◌, length, refl, arith, ap, count_by, ◌∙◌}
use Rattle.std.proofs.Math.Nat.{mul-le-mul_left}
use Rattle.std.proofs.lemmas.List.Sums.{count_by-le-length}
use Rattle.range_nodes.specs.Heap.{node_items}
use Rattle.range_nodes.specs.declared.nodes.TheConstants.{CAPACITY}
use Rattle.range_tree.proofs.Descending.{adds_more, descends, descent_ends}
use Rattle.range_tree.proofs.Searching.{node_falls}
use Rattle.range_tree.proofs.Paths.{child_within}
use Rattle.range_tree.proofs.PathsBelow.{weight_fits}
use Rattle.range_tree.proofs.btree.searching.search_below.Goals as goal
use Rattle.range_tree.proofs.btree.searching.search_below.Given.{Over}
use Rattle.range_tree.proofs.btree.searching.search_below.Goals.{After-count_passing-index}

pub count_passing-index-requires-clause-falls : goal.count_passing-index-requires-clause-falls
count_passing-index-requires-clause-falls g c =
    let p = g.P.Probe.test c.args.probe.now in
    let d = c.down.invariant.0 in
    rw (c.down.invariant.1, c.items.ensures.items) (node_falls p d.lies.shaped d.falls)

pub count_passing-index-requires-clause-some : goal.count_passing-index-requires-clause-some
count_passing-index-requires-clause-some g c = rw c.items.ensures.items (omega arith)

-- how many of the node's items pass
counted : (g : Over) (c : After-count_passing-index g)
    → c.count_passing-index.result ≡ count_by (g.P.Probe.test c.args.probe.now)
    (node_items c.args.nodes.now c.down.at)
counted g c =
    c.count_passing-index.ensures.count
    ∙ rw (c.down.invariant.1, c.items.ensures.items) refl

few : (g : Over) (c : After-count_passing-index g) → c.count_passing-index.result ≤ CAPACITY
few g c =
    omega (
      arith,
      counted g c,
      count_by-le-length (g.P.Probe.test c.args.probe.now) (node_items c.args.nodes.now c.down.at),
      c.items.ensures.fits,
      ap length c.items.ensures.items,
    )

pub returns-then-left-eq0-clause-edge : goal.returns-then-left-eq0-clause-edge
returns-then-left-eq0-clause-edge g c =
    let a = (goal.at.returns-then-left-eq0-clause-edge g c).After-count_passing-index in
    (descent_ends (g.P.Probe.test c.args.probe.now) c.args.nodes.now c.down.left c.down.at
    c.down.path c.down.weight c.if-left-eq0.true c.down.invariant.0 c.count_passing-index.result
    (counted g a)).edge

pub returns-then-left-eq0-clause-count : goal.returns-then-left-eq0-clause-count
returns-then-left-eq0-clause-count g c =
    let a = (goal.at.returns-then-left-eq0-clause-count g c).After-count_passing-index in
    (descent_ends (g.P.Probe.test c.args.probe.now) c.args.nodes.now c.down.left c.down.at
    c.down.path c.down.weight c.if-left-eq0.true c.down.invariant.0 c.count_passing-index.result
    (counted g a)).count

pub overflow_mul-path : goal.overflow_mul-path
overflow_mul-path g c =
    let a = (goal.at.overflow_mul-path g c).After-count_passing-index in
    let d = c.down.invariant.0 in
    omega (
      arith,
      d.lies.small,
      weight_fits c.args.below c.down.left c.down.weight c.requires.deep
          (omega (arith, c.if-left-eq0.false)) d.lies.weight_is,
      mul-le-mul_left c.down.weight (few g a),
    )

pub overflow_add-path : goal.overflow_add-path
overflow_add-path g c =
    let a = (goal.at.overflow_add-path g c).After-count_passing-index in
    let d = c.down.invariant.0 in
    omega (
      arith,
      d.lies.small,
      weight_fits c.args.below c.down.left c.down.weight c.requires.deep
          (omega (arith, c.if-left-eq0.false)) d.lies.weight_is,
      mul-le-mul_left c.down.weight (few g a),
    )

pub overflow_mul-weight : goal.overflow_mul-weight
overflow_mul-weight g c =
    grind (arith, weight_fits)

pub down-preserved : goal.down-preserved
down-preserved g c =
    grind (arith, descends, counted, adds_more)

pub child_at-at-requires-clause-within : goal.child_at-at-requires-clause-within
child_at-at-requires-clause-within g c =
    let a = (goal.at.child_at-at-requires-clause-within g c).After-count_passing-index in
    let s = c.args.nodes.now in
    let low : c.count_passing-index.result ≤ length (node_items s c.down.at) =
    omega (
      arith,
      counted g a,
      count_by-le-length (g.P.Probe.test c.args.probe.now) (node_items s c.down.at),
    ) in
    grind (arith, child_within)
