use Rattle.range_tree.proofs.Edges.{path_low}
use Rattle.range_tree.proofs.Pairs.{near_seat}
use Rattle.range_tree.proofs.Rotating.{has_pair, joined_edge, joined_shrinks, moved_path}
use Rattle.range_tree.proofs.btree.removal.join.Goals as goal

pub merge-requires-clause-pair : goal.merge-requires-clause-pair
merge-requires-clause-pair g c =
    has_pair c.requires.levelled

pub joined_seat-seat-requires-clause-small : goal.joined_seat-seat-requires-clause-small
joined_seat-seat-requires-clause-small g c =
    (near_seat c.args.turn c.args.edge c.requires.levelled c.requires.near
    c.requires.edge c.requires.few).0

pub edge_at-inner-requires-clause-seat : goal.edge_at-inner-requires-clause-seat
edge_at-inner-requires-clause-seat g c =
    (near_seat c.args.turn c.args.edge c.requires.levelled c.requires.near
    c.requires.edge c.requires.few).1 c.joined_seat-seat.result
    c.joined_seat-seat.ensures.first
    (rw (c.item_count-many.ensures, c.child_at-left.ensures) at
    c.joined_seat-seat.ensures.second)

pub seen_above-requires-clause-path : goal.seen_above-requires-clause-path
seen_above-requires-clause-path g c =
    moved_path c.args.low _ _ c.edge_at-inner.result c.args.edge
    c.edge_at-inner.ensures.leaf
    (rw c.seen_inside.ensures at c.edge_at-inner.ensures.inside)
    (path_low c.args.nodes.now c.args.low _ c.args.edge c.requires.deep c.requires.edge)

pub returns : goal.returns
returns g c =
    let second = rw (c.item_count-many.ensures, c.child_at-left.ensures) at
    c.joined_seat-seat.ensures.second in
    let edge = joined_edge c.requires.levelled c.merge.ensures c.requires.few
    c.args.turn c.args.edge c.edge_at-inner.result c.seen_above.result c.joined_seat-seat.result
    c.requires.near c.requires.edge c.joined_seat-seat.ensures.first second
    (rw c.child_at-left.ensures at c.edge_at-inner.ensures.leaf) c.edge_at-inner.ensures.turn
    (rw c.seen_inside.ensures at c.edge_at-inner.ensures.inside) c.seen_above.ensures.turn
    c.seen_above.ensures.inside in
    record {
      shrinks = joined_shrinks c.requires.levelled c.merge.ensures c.requires.few;
      edge = edge.0;
      offset = edge.1;
    }
