use Rattle.std.proofs.Common.{◌+◌, subst, sym, arith}
use Rattle.least_covers.proofs.Joins.{IsBestSoFar, best_new, best_of_all, best_old}
use Rattle.least_covers.specs.declared.rows.Share.{Share}
use Rattle.least_covers.proofs.rows.best_share.Goals.{then-added-best, else-added-best}
use Rattle.least_covers.proofs.rows.best_share.Goals as goal

pub loop-first-preserved : goal.loop-first-preserved
loop-first-preserved c =
    let low = c.args.low.now in
    let high = c.args.high.now in
    let best = c.loop-first.best in
    let P : Share → Type 0 = λ s. IsBestSoFar low high c.args.prefixes c.max-start.result (c.loop-first.first + 1) s.first s.added in
    elim c.if-added-best.branch [
      | then-added-best w ↦
          subst P (sym w.best-is)
          (best_new low high c.args.prefixes c.max-start.result c.loop-first.first best.first best.added
          c.loop-first.invariant c.added_by-added.result c.added_by-added.ensures w.if-added-best.true
          (omega arith) (omega arith))
      | else-added-best w ↦
          subst P (sym w.best-is)
          (best_old low high c.args.prefixes c.max-start.result c.loop-first.first best.first best.added
          c.loop-first.invariant c.added_by-added.result c.added_by-added.ensures w.if-added-best.false)
    ]

pub returns-clause-least : goal.returns-clause-least
returns-clause-least c =
    best_of_all c.args.low.now c.args.high.now c.args.prefixes c.max-start.result c.loop-first.first
    c.loop-first.best.first c.loop-first.best.added c.loop-first.invariant c.min-end.result
    c.requires.falls c.requires.high_falls c.requires.low c.requires.high c.requires.some c.requires.all
    (omega arith) (omega arith) (omega arith)
