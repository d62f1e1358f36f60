use Rattle.std.proofs.Common.{arith}
use Rattle.range_tree.proofs.Edges.{path_low}
use Rattle.range_tree.proofs.Pairs.{seat_low}
use Rattle.range_tree.proofs.Rotating.{has_pair, moved_path, next_edge, next_kept, next_shrinks}
use Rattle.range_tree.proofs.btree.removal.borrow_from_left.Goals as goal

pub rotate_right-requires-clause-pair : goal.rotate_right-requires-clause-pair
rotate_right-requires-clause-pair g c =
    has_pair c.requires.levelled

pub overflow_add-seat : goal.overflow_add-seat
overflow_add-seat g c =
    omega (arith, seat_low c.args.low c.args.edge c.requires.levelled.right c.requires.edge)

pub edge_at-inner-requires-clause-seat : goal.edge_at-inner-requires-clause-seat
edge_at-inner-requires-clause-seat g c =
    omega (arith, seat_low c.args.low c.args.edge c.requires.levelled.right c.requires.edge)

pub seen_above-requires-clause-path : goal.seen_above-requires-clause-path
seen_above-requires-clause-path g c =
    grind (arith, moved_path, path_low)

pub returns : goal.returns
returns g c =
    let edge = next_edge c.requires.levelled c.rotate_right.ensures c.requires.spare c.requires.room
    c.args.edge c.edge_at-inner.result c.seen_above.result c.requires.edge
    (rw (c.child_at-right.ensures, c.seat.ensures) at c.edge_at-inner.ensures.leaf)
    (rw c.seat.ensures at c.edge_at-inner.ensures.turn)
    (rw c.seen_inside.ensures at c.edge_at-inner.ensures.inside) c.seen_above.ensures.turn
    c.seen_above.ensures.inside in
    record {
      shrinks = next_shrinks c.requires.levelled c.rotate_right.ensures c.requires.spare c.requires.room;
      kept = next_kept c.requires.levelled c.rotate_right.ensures c.requires.spare c.requires.room;
      edge = edge.0;
      offset = edge.1;
    }
