use Rattle.std.proofs.Common.{arith}
use Rattle.range_tree.specs.Written.{root_shaped}
use Rattle.range_tree.proofs.Paths.{not_start, stands_first}
use Rattle.range_tree.proofs.Whole.{tree_is_not_too_deep}
use Rattle.range_tree.proofs.btree.BoxStorage.edge_after_passing.Goals as goal

pub search_below-edge-requires-clause-deep : goal.search_below-edge-requires-clause-deep
search_below-edge-requires-clause-deep g c =
    grind (arith, tree_is_not_too_deep)

pub returns-then-stands_first-clause-found : goal.returns-then-stands_first-clause-found
returns-then-stands_first-clause-found g c =
    grind (arith, stands_first)

pub returns-clause-found : goal.returns-clause-found
returns-clause-found g c =
    grind (arith, root_shaped, not_start)
