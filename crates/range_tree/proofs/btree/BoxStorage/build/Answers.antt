use Rattle.std.proofs.Common.{◌+◌, length, ap, arith}
use Rattle.range_tree.specs.Nodes.{IsRoomy, IsTree}
use Rattle.range_tree.proofs.Building.{all_taken, built_tree}
use Rattle.range_tree.proofs.Levels.{empty_levels, has_levels}
use Rattle.range_tree.proofs.Rank.{nothing_stored}
use Rattle.range_tree.proofs.Shares.{cut_is}
use Rattle.range_tree.proofs.Whole.{tree_is_not_too_deep}
use Rattle.range_tree.proofs.btree.BoxStorage.build.Goals as goal
use Rattle.range_tree.proofs.btree.BoxStorage.build.Given.{Over}
use Rattle.range_tree.proofs.btree.BoxStorage.build.Goals.{After-build-self}

pub build-self-requires-clause-room : goal.build-self-requires-clause-room
build-self-requires-clause-room g c =
    grind (arith, cut_is, nothing_stored, empty_levels)

tree : (g : Over) (c : After-build-self g)
    → IsTree c.build-self.new.nodes (c.layout_of-below.result.below + 1) c.build-self.result
tree g c =
    let s = c.args.self.now in
    let layout = c.layout_of-below.ensures in
    let cut =
    cut_is c.layout_of-below.result.width c.len-count.result (omega (arith, layout.deep))
    layout.least layout.most in
    built_tree s.levels (empty_levels s.whole.tree (ap length c.requires.empty)) s.whole.tree
    c.build-self.ensures.built cut.some

pub end_leaves-self-requires-clause-deep : goal.end_leaves-self-requires-clause-deep
end_leaves-self-requires-clause-deep g c =
    let a = (goal.at.end_leaves-self-requires-clause-deep g c).After-build-self in
    let levels = c.layout_of-below.result.below + 1 in
    let roomy : IsRoomy c.build-self.new.nodes levels c.build-self.result =
    grind (arith, all_taken, tree g a) in
    let deep = tree_is_not_too_deep levels roomy in
    omega (arith, deep)

pub invariant_of-self : goal.invariant_of-self
invariant_of-self g c =
    let a = (goal.at.invariant_of-self g c).After-build-self in
    grind (arith, all_taken, tree g a, has_levels (tree g a))
