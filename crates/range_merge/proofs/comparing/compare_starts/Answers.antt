use Rattle.std.proofs.Common.{arith}
use Rattle.range_keys.specs.PositionOrder.{position_total}
use Rattle.range_merge.proofs.comparing.compare_starts.Goals as goal

pub returns-in-Included-Excluded : goal.returns-in-Included-Excluded
returns-in-Included-Excluded g c =
    let order = g.K.MaybeBounded.order in
    let turned = (position_total order.cmp g.met.K.PartialEnum.lawful.total).antisymm in
    grind (arith, turned)
