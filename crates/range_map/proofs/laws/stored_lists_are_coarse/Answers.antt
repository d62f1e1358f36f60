use Rattle.range_map.proofs.StoredLists.{stored_coarse, coarse_stored, stored_equal}
use Rattle.range_map.proofs.laws.stored_lists_are_coarse.Goals as goal

pub returns : goal.returns
returns g c =
    record {
      coarse =
          λ complete items stored.
          stored_coarse g.met.K.PartialEnum.lawful items stored complete;
      stored =
          λ complete.
          coarse_stored g.met.K.PartialEnum.lawful complete g.V.PartialEq.eq;
      equal = stored_equal g.met.K.PartialEnum.lawful g.met.V.Eq.laws;
    }
