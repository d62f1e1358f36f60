use Rattle.std.proofs.Common.{◌-◌, ◌^◌, false, sym, ◌∙◌, arith}
use Rattle.range_nodes.specs.Heap.{node_items}
use Rattle.range_tree.specs.Nodes.{items_below}
use Rattle.range_tree.specs.declared.btree.path.TheConstants.{PATH_BASE}
use Rattle.range_tree.proofs.Descending.{begins, descends, descent_ends}
use Rattle.range_tree.proofs.Front.{count_none, falls_none}
use Rattle.range_tree.proofs.btree.path.first_edge.Goals as goal

pub down-init : goal.down-init
down-init g c =
    grind (arith, begins, falls_none)

pub down-preserved : goal.down-preserved
down-preserved g c =
    let s = c.args.nodes.now in
    let below = c.args.below in
    let left = c.down.left in
    let weight = PATH_BASE ^ (below - left) in
    let down = descends (λ _. false) s c.down.leaf 0 weight (omega (arith, c.down-test.true))
    c.down.invariant 0 (sym (count_none (node_items s c.down.leaf))) in
    grind arith

pub returns : goal.returns
returns g c =
    let ends = descent_ends (λ _. false) c.args.nodes.now c.down.left c.down.leaf 0 _
    (omega (arith, c.down-test.false)) c.down.invariant 0
    (sym (count_none (node_items c.args.nodes.now c.down.leaf))) in
    record {
      edge = ends.edge;
      offset = ends.count ∙ count_none (items_below c.args.nodes.now _ c.args.number);
    }
