use Rattle.range_map.proofs.Common.{holding_is}
use Rattle.range_map.proofs.map.RangeMap.contains_key_counted.Goals as goal

pub returns-clause-value : goal.returns-clause-value
returns-clause-value g c =
    rw c.is_some.ensures (holding_is g.K.MaybeBounded.order g.V.PartialEq.eq _ c.args.key
    c.get_counted.result c.get_counted.ensures.value)
