use Rattle.range_runs.proofs.Common.{sym}
use Rattle.range_runs.proofs.RunItems.{stored_order, run_last, run_alone}
use Rattle.range_runs.proofs.runs.split_last.Goals as goal

pub returns-in-Some-clause-items : goal.returns-in-Some-clause-items
returns-in-Some-clause-items g c = run_last _ _ _ c.get-item.result.now
    (g.met.C.Storage.good_is_in_range c.args.stored.now c.args.last c.requires.run.1)
    c.requires.run.2 c.get-item.ensures _ c.in-Some.ensures.1

pub returns-else-stands_before-clause-items : goal.returns-else-stands_before-clause-items
returns-else-stands_before-clause-items g c =
    let good = g.met.C.Storage.good_is_in_range c.args.stored.now in
    let within = good c.args.last c.requires.run.1 in
    let behind = (stored_order g.met.K.PartialEnum.lawful g.V.PartialEq.eq c.requires.stored
    (good c.args.first c.requires.run.0) within c.get.ensures c.get-item.ensures).1
    (sym c.if-stands_before.ensures) in
    run_alone _ _ _ c.get-item.result.now within c.requires.run.2 behind c.get-item.ensures
