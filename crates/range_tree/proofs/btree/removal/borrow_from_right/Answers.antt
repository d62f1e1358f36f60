use Rattle.std.proofs.Common.{arith}
use Rattle.range_tree.proofs.Edges.{path_small}
use Rattle.range_tree.proofs.Rotating.{has_pair, previous_edge, previous_kept, previous_shrinks}
use Rattle.range_tree.proofs.btree.removal.borrow_from_right.Goals as goal

pub rotate_left-requires-clause-pair : goal.rotate_left-requires-clause-pair
rotate_left-requires-clause-pair g c =
    has_pair c.requires.levelled

pub seen_above-requires-clause-path : goal.seen_above-requires-clause-path
seen_above-requires-clause-path g c =
    grind (arith, path_small)

pub returns : goal.returns
returns g c =
    let edge = previous_edge c.requires.levelled c.rotate_left.ensures c.requires.spare c.requires.room c.args.edge
    c.seen_above.result c.requires.edge c.seen_above.ensures.turn c.seen_above.ensures.inside in
    record {
      shrinks = previous_shrinks c.requires.levelled c.rotate_left.ensures c.requires.spare c.requires.room;
      kept = previous_kept c.requires.levelled c.rotate_left.ensures c.requires.spare c.requires.room;
      edge = edge.0;
      offset = edge.1;
    }
