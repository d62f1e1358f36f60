use Rattle.std.proofs.Common.{rules, of_calls}
use Rattle.std.specs.Ordering.{int_eq}
use Rattle.rangecalc.specs.Two.{Makes}
use Rattle.rangecalc.proofs.Made.{combined_as, fails_as}
use Rattle.rangecalc.proofs.two.combined.Goals as goal
use Rattle.std.proofs.lemmas.Result.{IfOk-weaker}

pub returns-clause-bound : goal.returns-clause-bound
returns-clause-bound g c = IfOk-weaker c.put_together.result _ _
    (λ made.
    combined_as g.K.MaybeBounded.order int_eq int_eq int_eq _ (Makes c.args.way)
    (λ left right answer is.
    rw (← is.shows, ← is.other_shows) (let says = is.says in search (rules, of_calls))) _ _ _)
    c.put_together.ensures.bound

pub returns-clause-fault : goal.returns-clause-fault
returns-clause-fault g c = λ fault failed.
    fails_as g.K.MaybeBounded.order int_eq int_eq int_eq _ (Makes c.args.way)
    (λ left right answer is.
    rw (← is.shows, ← is.other_shows) (let says = is.says in search (rules, of_calls))) _ _ fault
    (c.put_together.ensures.closure fault failed)
