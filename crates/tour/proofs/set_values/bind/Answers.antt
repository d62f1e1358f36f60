use Rattle.std.proofs.Common.{rules}
use Rattle.btree_range_map.specs.EqualClones.{btree_set_clones_are_equal}
use Rattle.tour.proofs.set_values.bind.Goals as goal

pub insert-requires-clause-values : goal.insert-requires-clause-values
insert-requires-clause-values g c = btree_set_clones_are_equal _ _ (search rules)
