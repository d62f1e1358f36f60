use Rattle.std.proofs.Common.{◌∙◌, ◌++◌, ap, refl, sym, rules, arith, map, take}
use Rattle.std.proofs.lemmas.List.{drop-set-lt}
use Rattle.range_handles.proofs.Fills.{one_more}
use Rattle.range_handles.proofs.batch.fill.Goals as goal

pub loop-count-init : goal.loop-count-init
loop-count-init g c = record { shown = refl; rest = λ n le. refl; within = search rules }

pub loop-count-preserved : goal.loop-count-preserved
loop-count-preserved g c =
    let says = g.S.Source.says in
    let slots = c.loop-count.slots in
    let count = c.loop-count.count in
    let given = c.in-Some.given in
    record {
      shown =
          one_more says slots count given (g.S.Source.left c.args.source.now) _
          (g.S.Source.left c.give.new.self)
          c.loop-count-test.true
          (c.loop-count.invariant.shown
          ∙ ap (λ left. map says (take count slots) ++ left) c.in-Some.ensures)
          refl;
      rest = λ n past.
          drop-set-lt n slots count given (omega arith)
          ∙ c.loop-count.invariant.rest n (omega arith);
      within = omega arith;
    }

pub returns-in-None-clause-shown : goal.returns-in-None-clause-shown
returns-in-None-clause-shown g c =
    c.loop-count.invariant.shown
    ∙ ap (λ left. map g.S.Source.says (take c.loop-count.count c.loop-count.slots) ++ left)
    (c.in-None.ensures.0 ∙ sym c.in-None.ensures.1)

pub returns-in-None-clause-rest : goal.returns-in-None-clause-rest
returns-in-None-clause-rest g c = c.loop-count.invariant.rest c.loop-count.count (omega arith)

pub returns-clause-shown : goal.returns-clause-shown
returns-clause-shown g c = c.loop-count.invariant.shown

pub returns-clause-rest : goal.returns-clause-rest
returns-clause-rest g c = c.loop-count.invariant.rest c.loop-count.count (omega arith)

pub returns-clause-within : goal.returns-clause-within
returns-clause-within g c = omega arith
