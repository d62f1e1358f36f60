use Rattle.range_handles.proofs.Upto.{upto_is_full}
use Rattle.range_handles.proofs.batch.upto.Goals as goal

pub returns : goal.returns
returns g c =
    c.within.ensures.items
    (upto_is_full g.K.MaybeBounded.order g.met.K.PartialEnum.lawful c.args.key c.known.ensures)
