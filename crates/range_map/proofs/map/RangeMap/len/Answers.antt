use Rattle.range_map.proofs.MeasureTotals.{told_some}
use Rattle.range_map.proofs.map.RangeMap.len.Goals as goal

pub unwrap-requires : goal.unwrap-requires
unwrap-requires g c =
    told_some g.K.MaybeBounded.order g.met.K.Bounded.known_least g.met.K.Bounded.known_greatest _
    c.bounded_len.result c.bounded_len.ensures.unknown.0
