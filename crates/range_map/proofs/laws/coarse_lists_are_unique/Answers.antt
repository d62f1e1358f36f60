use Rattle.range_map.proofs.Coarse.{coarse_alike}
use Rattle.range_map.proofs.laws.coarse_lists_are_unique.Goals as goal

pub returns : goal.returns
returns g c = coarse_alike g.met.K.PartialEnum.lawful g.met.V.Eq.laws
