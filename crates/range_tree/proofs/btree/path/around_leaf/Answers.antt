use Rattle.std.proofs.Common.{◌<◌, arith, sym, ◌∙◌}
use Rattle.range_tree.proofs.InLeaf.{leaf_home}
use Rattle.range_tree.proofs.btree.path.around_leaf.Goals as goal
use Rattle.range_tree.proofs.btree.path.around_leaf.Goals.{else-edge-eq0-via-then-edge-eq0+else-index-eq0, else-edge-eq0-via-else-edge-eq0}

pub returns-then-index-item_count-clause-home : goal.returns-then-index-item_count-clause-home
returns-then-index-item_count-clause-home g c =
    elim c.else-edge-eq0.branch [
      | else-edge-eq0-via-then-edge-eq0+else-index-eq0 w ↦
          let start = w.if-edge-eq0.true in
          let some : 0 < c.parent_of-node.result.index = omega (arith, w.if-index-eq0.false) in
          c.home_before.ensures.none start ∙ c.home_before-above.ensures.some some
          ∙ sym (c.parent_of-node.ensures.home start some)
      | else-edge-eq0-via-else-edge-eq0 w ↦
          let some : 0 < c.args.edge.index = omega (arith, w.if-edge-eq0.false) in
          c.home_before.ensures.some some
          ∙ sym (leaf_home c.args.nodes.now c.args.below c.args.number c.args.edge c.requires.edge
          some)
    ]
