use Rattle.std.proofs.Common.{rules, of_calls}
use Rattle.rangecalc.proofs.Related.{subset_tells, told}
use Rattle.rangecalc.proofs.two.is_subset.Goals as goal

pub returns : goal.returns
returns g c =
    told g.K.MaybeBounded.order g.met.K.PartialEnum.lawful g.met.K.Complete.complete _ _ _
    g.C.Storage.items (subset_tells g.K.MaybeBounded.order g.met.K.PartialEnum.lawful
    g.met.K.Complete.complete _ _ _ (λ left right found is.
    rw (← is.shows, ← is.other_shows) (let says = is.says in search (rules, of_calls))))
    _ _ c.is_ok.ensures.value c.put_together-passed.ensures.bound
    c.put_together-passed.ensures.closure c.put_together-passed.ensures.memory
