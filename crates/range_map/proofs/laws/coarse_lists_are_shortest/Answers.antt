use Rattle.range_map.proofs.Coarse.{coarse_shortest, coarse_disjoint}
use Rattle.range_map.proofs.laws.coarse_lists_are_shortest.Goals as goal

pub returns : goal.returns
returns g c =
    record {
      shortest = coarse_shortest g.met.K.PartialEnum.lawful g.met.V.Eq.laws;
      disjoint = coarse_disjoint g.met.K.PartialEnum.lawful g.met.V.Eq.laws;
    }
