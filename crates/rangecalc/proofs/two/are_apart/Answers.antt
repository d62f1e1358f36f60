use Rattle.std.proofs.Common.{rules, of_calls}
use Rattle.rangecalc.proofs.Related.{apart_tells, told}
use Rattle.rangecalc.proofs.two.are_apart.Goals as goal

pub returns : goal.returns
returns g c =
    let order = g.K.MaybeBounded.order in
    let lawful = g.met.K.PartialEnum.lawful in
    let complete = g.met.K.Complete.complete in
    told order lawful complete _ _ _ g.C.Storage.items
    (apart_tells order lawful complete _ _ _ (λ left right found is.
    rw (← is.shows, ← is.other_shows) (let says = is.says in search (rules, of_calls))))
    _ _ c.is_ok.ensures.value c.put_together-passed.ensures.bound
    c.put_together-passed.ensures.closure c.put_together-passed.ensures.memory
