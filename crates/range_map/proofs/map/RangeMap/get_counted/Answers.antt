use Rattle.range_runs.proofs.Found.{stored_value}
use Rattle.range_map.proofs.map.RangeMap.get_counted.Goals as goal

pub returns-in-Some-clause-stored : goal.returns-in-Some-clause-stored
returns-in-Some-clause-stored g c =
    rw (← c.self.view_is) (stored_value g.K.MaybeBounded.order g.met.K.PartialEnum.lawful
    g.V.PartialEq.eq _ c.args.key c.in-Some.item.now c.in-Some.ensures.stored)
