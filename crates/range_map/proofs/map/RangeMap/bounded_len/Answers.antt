use Rattle.range_map.proofs.MeasureTotals.{counted_bound, stored_in_order, untold_list}
use Rattle.range_map.proofs.map.RangeMap.bounded_len.Goals as goal

pub measure-requires : goal.measure-requires
measure-requires g c =
    stored_in_order g.met.K.PartialEnum.lawful g.V.PartialEq.eq c.iter.result c.iter.ensures.canonical.stored

pub returns : goal.returns
returns g c =
    let lawful = g.met.K.PartialEnum.lawful in
    let items = g.C.Storage.items c.args.self.now in
    let ordered =
    stored_in_order lawful g.V.PartialEq.eq items (rw c.iter.ensures.items at c.iter.ensures.canonical.stored)
    in
    let measure = rw c.iter.ensures.items at c.measure.ensures in
    record {
      measure = measure;
      unknown = rw measure (untold_list lawful _ _ items ordered);
      counted = λ counts. rw measure (counted_bound lawful _ _ items counts ordered);
    }
