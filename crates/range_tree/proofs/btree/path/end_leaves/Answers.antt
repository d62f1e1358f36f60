use Rattle.std.proofs.Common.{refl}
use Rattle.range_nodes.specs.declared.nodes.TheConstants.{CAPACITY}
use Rattle.range_tree.specs.Written.{start_of_place}
use Rattle.range_tree.proofs.EndLeaves.{are_end_leaves}
use Rattle.range_tree.proofs.btree.path.end_leaves.Goals as goal

pub returns : goal.returns
returns g c =
    let first = c.first_edge-first.ensures in
    let end = c.end_edge-end.ensures in
    let start = start_of_place c.args.nodes.now 1 CAPACITY c.args.below c.args.number
    c.first_edge-first.result c.requires.shaped first.edge first.offset in
    are_end_leaves c.args.below c.first_edge-first.result c.end_edge-end.result _
    c.requires.shaped start.0 start.1 first.edge end.edge end.offset refl refl
