use Rattle.std.proofs.Common.{refl}
use Rattle.range_sets.proofs.KeysOfMaps.{mapped_keys}
use Rattle.range_sets.proofs.set.RangeSet.keys_of.Goals as goal

pub returns-in-Ok-clause-held : goal.returns-in-Ok-clause-held
returns-in-Ok-clause-held g c =
    mapped_keys g.T.MaybeBounded.order g.met.T.PartialEnum.lawful _ _ _ (λ w. refl) _ _
    c.in-Ok.ensures.bound
