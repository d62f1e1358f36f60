use Rattle.std.proofs.Common.{ap}
use Rattle.range_map.proofs.StoredLists.{stored_canonical}
use Rattle.range_map.proofs.map.into_iter.RangeMapIntoIterator.into_iter.Goals as goal

pub returns : goal.returns
returns g c =
    record {
      into_iter_gives = rw c.new.ensures
          (ap g.C.Storage.items c.self.view_is, stored_canonical g.met.K.PartialEnum.lawful g.met.V.Eq.laws _ c.self.invariant);
    }
