use Rattle.std.proofs.Common.{arith}
use Rattle.range_tree.proofs.Parents.{starts_over, goes_over, seat_low, weight_grows, parent_found}
use Rattle.range_tree.proofs.Paths.{child_within}
use Rattle.range_tree.proofs.btree.path.parent_of.Goals as goal

pub down-init : goal.down-init
down-init g c =
    starts_over c.args.nodes.now c.args.edge c.requires.above c.requires.shaped c.requires.edge
    c.requires.some

pub child_at-node-requires-clause-within : goal.child_at-node-requires-clause-within
child_at-node-requires-clause-within g c =
    child_within (omega (arith, c.down-test.true)) c.down.invariant.way.lies.shaped
    c.first_turn.result
    (seat_low c.args.nodes.now c.down.invariant c.first_turn.result c.first_turn.ensures)

pub overflow_mul-weight : goal.overflow_mul-weight
overflow_mul-weight g c = omega (
  arith,
  weight_grows c.args.nodes.now c.down.invariant
      c.first_turn.result c.first_turn.ensures c.requires.deep,
)

pub down-preserved : goal.down-preserved
down-preserved g c =
    rw (c.child_at-node.ensures, c.seen_inside-inner.ensures)
    (goes_over c.args.nodes.now c.down.invariant c.first_turn.result c.first_turn.ensures
    (omega (arith, c.down-test.true)))

pub returns : goal.returns
returns g c =
    parent_found c.args.nodes.now c.down.invariant c.first_turn-2.result c.first_turn-2.ensures
    c.requires.deep c.requires.edge (omega (arith, c.down.invariant.some, c.down-test.false))
