use Rattle.std.proofs.Common.{arith}
use Rattle.range_tree.proofs.Edges.{leaf_edge, leaf_place}
use Rattle.range_tree.proofs.Levels.{empty_levels, has_levels}
use Rattle.range_tree.proofs.RootGrowth.{first_tree}
use Rattle.range_tree.proofs.Rank.{first_room}
use Rattle.range_tree.proofs.btree.BoxStorage.insert.Goals as goal
use Rattle.range_tree.proofs.btree.BoxStorage.insert.Goals.{After-store_leaf-self}

pub store_leaf-self-requires : goal.store_leaf-self-requires
store_leaf-self-requires g c =
    grind (arith, first_room, empty_levels)

pub invariant_of-self : goal.invariant_of-self
invariant_of-self g c = grind (arith, first_tree, empty_levels, has_levels)

pub returns-in-None : goal.returns-in-None
returns-in-None g c = grind (arith, first_tree, empty_levels, leaf_edge, leaf_place)
