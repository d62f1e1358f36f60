use Rattle.range_map.proofs.Common.{arith, common_steps}
use Rattle.range_map.proofs.Overlays.{overlaid_by_clones}
use Rattle.range_map.proofs.map.RangeMap.overlay.Goals as goal

pub returns-clause-bound : goal.returns-clause-bound
returns-clause-bound g c =
    grind (arith, common_steps, overlaid_by_clones, g.met.K.PartialEnum.lawful, g.met.V.Eq.laws)
