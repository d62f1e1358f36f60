use Rattle.range_edit.proofs.Common.{both, not_lt, false≢true, refl, ap, inl, inr, option_copied}
use Rattle.range_runs.proofs.Extents.{past_le}
use Rattle.range_edit.proofs.SidePlans.{got_none, got_only}
use Rattle.range_edit.proofs.replace.joined_right.Goals as goal
use Rattle.std.proofs.lemmas.Grind.{common_steps}
use Rattle.std.proofs.Common.{arith}

pub returns-in_default : goal.returns-in_default
returns-in_default g c = inr (got_none _ c.args.previous c.in_default.is, refl)

pub returns-then-ends_after : goal.returns-then-ends_after
returns-then-ends_after g c = grind (arith, common_steps, got_only)

pub returns : goal.returns
returns g c =
    let lawful = g.met.K.PartialEnum.lawful in
    let within = rw c.in-Some.is at c.requires.within in
    inl (
      c.in-Some.item.now,
      ap option_copied c.in-Some.is,
      both lawful _ _ (past_le g.K.MaybeBounded.order lawful c.in-Some.item.now.key.end
          c.args.range.now.end c.known.ensures.1 c.requires.ends.window.known.1 within.ends)
          (not_lt lawful _ _ (λ l. false≢true (c.if-ends_after.ensures.1 l))),
      c.joins_after.ensures.joins,
    )
