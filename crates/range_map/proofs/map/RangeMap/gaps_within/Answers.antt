use Rattle.range_map.proofs.Common.{arith, common_steps}
use Rattle.range_map.proofs.FreePieces.{gaps_within_are, none_free}
use Rattle.range_map.proofs.map.RangeMap.gaps_within.Goals as goal

pub returns-clause-gaps : goal.returns-clause-gaps
returns-clause-gaps g c = grind (arith, common_steps, gaps_within_are, g.met.K.PartialEnum.lawful)

pub returns-clause-none : goal.returns-clause-none
returns-clause-none g c = grind (arith, common_steps, none_free)
