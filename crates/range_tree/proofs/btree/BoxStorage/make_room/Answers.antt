use Rattle.std.proofs.Common.{arith}
use Rattle.range_tree.specs.EndLeaves.{end_leaves_kept}
use Rattle.range_tree.proofs.Filling.{refilled_root}
use Rattle.range_tree.proofs.RootGrowth.{grown_whole}
use Rattle.range_tree.proofs.Whole.{tree_is_not_too_deep, tree_leaf}
use Rattle.range_tree.proofs.btree.BoxStorage.make_room.Goals as goal

pub item_count-requires : goal.item_count-requires
item_count-requires g c = (tree_leaf c.requires.edge).present

pub fill_beside-requires-clause-deep : goal.fill_beside-requires-clause-deep
fill_beside-requires-clause-deep g c =
    grind (arith, tree_is_not_too_deep)

pub invariant_of-self : goal.invariant_of-self
invariant_of-self g c =
    let s = c.args.self.now in
    let refills = c.fill_beside.ensures.refills in
    let kept = refilled_root s.levels c.requires.edge.some s.whole.tree refills in
    let whole = grown_whole s.len kept s.counted
    (omega (arith, s.whole.fits, refills.rewritten.moved.capacity)) s.whole.counted in
    record {
      whole = whole.0;
      counted = whole.1;
      levelled = s.levelled;
      ended = end_leaves_kept s.nodes c.fill_beside.new.nodes refills.children s.ended;
    }
