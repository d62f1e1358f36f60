use Rattle.range_edit.proofs.Common.{◌≡◌, ◌+◌, ◌-◌, length, arith, rank_or_len}
use Rattle.range_runs.proofs.CoveredPlaces.{on_ok}
use Rattle.range_edit.proofs.RangeSides.{put_between as stands_between}
use Rattle.range_edit.proofs.Surrounded.{none_reach}
use Rattle.range_edit.proofs.free.put_between.Goals as goal

pub returns-clause-ok : goal.returns-clause-ok
returns-clause-ok g c =
    let storage = g.C.Storage in
    let stored = c.args.stored.now in
    let w = c.args.ends.now.window in
    let place = rank_or_len (storage.rank stored) (length (storage.items stored)) w.from in
    let none = none_reach c.requires.ends c.requires.none in
    let plus : place + 0 ≡ place = omega arith in
    let end : place + w.count - 0 ≡ place + w.count = omega arith in
    on_ok _ _ c.put.result (stands_between g.met.K.PartialEnum.lawful g.met.V.Eq.laws
    c.requires.ends.window c.args.item.value c.requires.none (rw (none.0, plus) at c.requires.before)
    (rw (none.1, end) at c.requires.after) (storage.items c.put.new.stored)) c.put.ensures.put
