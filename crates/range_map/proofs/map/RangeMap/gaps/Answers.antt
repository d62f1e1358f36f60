use Rattle.range_map.proofs.Common.{Some, Unbounded}
use Rattle.range_map.proofs.FreeParts.{few_free, gaps_are, held_once}
use Rattle.range_map.proofs.map.RangeMap.gaps.Goals as goal

pub returns : goal.returns
returns g c =
    let lawful = g.met.K.PartialEnum.lawful in
    let items = g.C.Storage.items c.self.inside.stored in
    let stored = c.self.invariant in
    rw (c.new.ensures, ← c.self.view_is) (record {
      gaps = gaps_are lawful g.met.V.Eq.laws items stored;
      once = held_once lawful g.met.V.Eq.laws items stored;
      few = few_free g.K.MaybeBounded.order (Some Unbounded) items;
    })
