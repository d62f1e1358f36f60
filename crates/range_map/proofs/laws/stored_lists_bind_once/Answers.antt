use Rattle.range_map.proofs.Once.{bound_once}
use Rattle.range_map.proofs.laws.stored_lists_bind_once.Goals as goal

pub returns : goal.returns
returns g c = bound_once g.met.K.PartialEnum.lawful g.met.V.Eq.laws
