use Rattle.std.proofs.Common.{◌≢◌, arith}
use Rattle.range_tree.proofs.Behind.{home_sets_out, home_goes_on, home_is_found}
use Rattle.range_tree.proofs.Paths.{below_kid, below_turn, child_within}
use Rattle.range_tree.proofs.btree.path.find_home.Goals as goal

pub down-init : goal.down-init
down-init g c =
    record {
      shaped = c.requires.shaped;
      home = home_sets_out c.args.nodes.now c.args.edge _ c.requires.edge c.requires.some;
    }

pub child_at-at-requires-clause-within : goal.child_at-at-requires-clause-within
child_at-at-requires-clause-within g c =
    grind (arith, child_within, below_turn)

pub down-preserved : goal.down-preserved
down-preserved g c =
    let d = c.down.invariant in
    let above : c.down.left ≢ 0 = omega (arith, c.down-test.true) in
    let low = rw (← c.first_turn-index.ensures) at
    (below_turn above d.shaped c.down.inner d.home.is) in
    rw (c.child_at-at.ensures, c.seen_inside-inner.ensures) (record {
      shaped = below_kid above d.shaped c.first_turn-index.result low;
      home = home_goes_on c.args.nodes.now above d.shaped d.home c.first_turn-index.result
          c.first_turn-index.ensures c.home_before-home.result c.home_before-home.ensures.none
          c.home_before-home.ensures.some;
    })

pub returns : goal.returns
returns g c = home_is_found c.args.nodes.now c.down.left c.down.at c.down.inner
    (omega (arith, c.down-test.false)) c.down.invariant.home c.home_before.result
    c.home_before.ensures.none c.home_before.ensures.some
