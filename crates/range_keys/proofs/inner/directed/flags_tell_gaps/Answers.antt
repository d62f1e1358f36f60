-- The theorem on touching bounds, at the laws of the key type.
use Rattle.range_keys.proofs.Touching.{flags_tell_gaps}
use Rattle.range_keys.proofs.inner.directed.flags_tell_gaps.Goals as goal

pub returns : goal.returns
returns g c = flags_tell_gaps _ g.met.K.PartialEnum.lawful
