use Rattle.range_runs.proofs.Common.{◌≡◌, ◌+◌, ◌-◌, arith, refl, sym}
use Rattle.range_runs.proofs.RunItems.{stored_order}
use Rattle.range_runs.proofs.runs.run_between.Goals as goal

pub returns-then-stands_before-clause-items : goal.returns-then-stands_before-clause-items
returns-then-stands_before-clause-items g c =
    let good = g.met.C.Storage.good_is_in_range c.args.stored.now in
    let rank = g.C.Storage.rank c.args.stored.now in
    let at_p = rw c.in-Some-Some.is-0 at c.requires.first in
    let at_q = rw c.in-Some-Some.is-1 at c.requires.last in
    let behind = (stored_order g.met.K.PartialEnum.lawful g.V.PartialEq.eq c.requires.stored
    (good c.in-Some-Some.q at_q.0) (good c.in-Some-Some.p at_p.0) c.get.ensures
    c.get-in-Some-Some.ensures).0 (sym c.if-stands_before.ensures) in
    let none : rank c.in-Some-Some.q + 1 - rank c.in-Some-Some.p ≡ 0 = omega (arith, behind) in
    rw (c.in-Some-Some.is-0, c.in-Some-Some.is-1, none) refl

pub returns-else-stands_before-clause-run : goal.returns-else-stands_before-clause-run
returns-else-stands_before-clause-run g c =
    let good = g.met.C.Storage.good_is_in_range c.args.stored.now in
    let at_p = rw c.in-Some-Some.is-0 at c.requires.first in
    let at_q = rw c.in-Some-Some.is-1 at c.requires.last in
    let upto = (stored_order g.met.K.PartialEnum.lawful g.V.PartialEq.eq c.requires.stored
    (good c.in-Some-Some.q at_q.0) (good c.in-Some-Some.p at_p.0) c.get.ensures
    c.get-in-Some-Some.ensures).1 (sym c.if-stands_before.ensures) in
    (at_p.0, at_q.0, upto)
