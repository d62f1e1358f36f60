use Rattle.range_map.proofs.Depths.{greatest_level_is, one_greatest}
use Rattle.range_map.proofs.map.levels.one_level_is_greatest.Goals as goal

pub returns-clause-greatest : goal.returns-clause-greatest
returns-clause-greatest c = greatest_level_is

pub returns-clause-only : goal.returns-clause-only
returns-clause-only c = one_greatest
