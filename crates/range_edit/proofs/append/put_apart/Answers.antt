use Rattle.range_edit.proofs.Common.{arith, common_steps, length, rank_or_len}
use Rattle.range_edit.proofs.ApartRanges.{free_not}
use Rattle.range_runs.proofs.CoveredPlaces.{on_ok}
use Rattle.range_edit.proofs.OuterRange.{inserted_apart}
use Rattle.range_edit.proofs.append.put_apart.Goals as goal

pub returns-clause-ok : goal.returns-clause-ok
returns-clause-ok g c =
    let storage = g.C.Storage in
    let stored = c.args.stored.now in
    let items = storage.items stored in
    let item = c.args.item in
    on_ok _ _ c.put.result (inserted_apart g.K.MaybeBounded.order g.met.K.PartialEnum.lawful
    g.V.PartialEq.eq g.met.V.Eq.laws items item.key c.requires.stored c.known.ensures
    c.requires.nonempty (rank_or_len (storage.rank stored) (length items) c.args.from)
    c.requires.apart (storage.items c.put.new.stored) item.value) c.put.ensures.put

pub returns-clause-unconnected : goal.returns-clause-unconnected
returns-clause-unconnected g c =
    let apart = c.requires.apart in
    free_not g.K.MaybeBounded.order g.met.K.PartialEnum.lawful g.V.PartialEq.eq g.met.V.Eq.laws
    (g.C.Storage.items c.args.stored.now) c.args.item.key c.requires.stored c.known.ensures
    c.requires.nonempty _ apart.before apart.behind

pub returns-clause-put : goal.returns-clause-put
returns-clause-put g c = grind (arith, common_steps)

pub returns-clause-few : goal.returns-clause-few
returns-clause-few g c = grind (arith, common_steps)
