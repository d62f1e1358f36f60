use Rattle.range_edit.proofs.Common.{common_steps, cases_lt, false≢true, inl, inr, length, arith}
use Rattle.range_edit.proofs.UpdatedLists.{by_middle}
use Rattle.range_edit.proofs.Succeeding.{gathered_succeeds}
use Rattle.range_edit.proofs.update.update_pieces.Goals as goal

pub returns-clause-ok : goal.returns-clause-ok
returns-clause-ok g c = by_middle g.K.MaybeBounded.order g.V.PartialEq.eq g.met.V.Eq.laws g.F.Fn
    c.args.f.now _ _ _ _ c.in_ok-middle.ensures.ok c.in_ok-replace.ensures.ok

pub returns-in_err-middle-clause-closure : goal.returns-in_err-middle-clause-closure
returns-in_err-middle-clause-closure g c = λ e failed.
    c.in_err-middle.ensures.closure e (grind (arith, common_steps))

pub returns-in_err-replace-clause-memory : goal.returns-in_err-replace-clause-memory
returns-in_err-replace-clause-memory g c = λ failed.
    let middle = c.in_ok-middle.middle.items in
    elim (cases_lt 0 (length middle)) [
      | inl some ↦ gathered_succeeds g.K.MaybeBounded.order g.V.PartialEq.eq g.F.Fn c.args.f.now _ _
          middle c.in_ok-middle.ensures.ok some
      | inr none ↦ absurd (false≢true (c.in_err-replace.ensures.none_put (omega (arith, none))))
    ]

pub update_within-requires-clause-within : goal.update_within-requires-clause-within
update_within-requires-clause-within g c = grind (arith, common_steps)
