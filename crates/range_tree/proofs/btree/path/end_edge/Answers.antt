use Rattle.std.proofs.Common.{true, sym, ◌∙◌, arith}
use Rattle.std.proofs.Math.Nat.{mul-le-mul_left}
use Rattle.range_nodes.specs.Heap.{node_items}
use Rattle.range_tree.proofs.Descending.{begins, descends, descent_ends}
use Rattle.range_tree.proofs.Front.{count_all, falls_all}
use Rattle.range_tree.proofs.PathsBelow.{weight_fits}
use Rattle.range_tree.proofs.btree.path.end_edge.Goals as goal

pub down-init : goal.down-init
down-init g c =
    begins (λ _. true) c.args.nodes.now c.args.below c.args.number c.requires.shaped (falls_all _)

pub overflow_mul-path : goal.overflow_mul-path
overflow_mul-path g c =
    grind (arith, weight_fits, mul-le-mul_left)

pub overflow_add-path : goal.overflow_add-path
overflow_add-path g c =
    grind (arith, weight_fits, mul-le-mul_left)

pub overflow_mul-weight : goal.overflow_mul-weight
overflow_mul-weight g c =
    grind (arith, weight_fits)

pub down-preserved : goal.down-preserved
down-preserved g c = grind (arith, descends, count_all)

pub returns : goal.returns
returns g c =
    let ends = descent_ends (λ _. true) c.args.nodes.now c.down.left c.down.leaf c.down.path
    c.down.weight (omega (arith, c.down-test.false)) c.down.invariant c.item_count.result
    (c.item_count.ensures ∙ sym (count_all (node_items c.args.nodes.now c.down.leaf))) in
    grind (arith, count_all)
