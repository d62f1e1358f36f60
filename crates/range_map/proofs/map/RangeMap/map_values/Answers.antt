use Rattle.range_map.proofs.Common.{arith, common_steps}
use Rattle.range_map.proofs.MappedValues.{keys_mapped}
use Rattle.range_map.proofs.map.RangeMap.map_values.Goals as goal

pub returns-clause-bound : goal.returns-clause-bound
returns-clause-bound g c =
    grind (arith, common_steps, keys_mapped, g.met.K.PartialEnum.lawful, g.met.V.Eq.laws)
