use Rattle.range_edit.proofs.Common.{both, not_lt, false≢true, refl, ap, inl, inr, option_copied}
use Rattle.range_edit.proofs.SidePlans.{got_none, got_only}
use Rattle.range_edit.proofs.replace.joined_left.Goals as goal
use Rattle.std.proofs.lemmas.Grind.{common_steps}
use Rattle.std.proofs.Common.{arith}

pub returns-in_default : goal.returns-in_default
returns-in_default g c = inr (got_none _ c.args.next c.in_default.is, refl)

pub returns-then-starts_before : goal.returns-then-starts_before
returns-then-starts_before g c = grind (arith, common_steps, got_only)

pub returns : goal.returns
returns g c =
    let lawful = g.met.K.PartialEnum.lawful in
    let within = rw c.in-Some.is at c.requires.within in
    inl (
      c.in-Some.item.now,
      ap option_copied c.in-Some.is,
      both lawful _ _
          (not_lt lawful _ _ (λ l. false≢true (c.if-starts_before.ensures.1 l))) within.starts,
      c.joins_before.ensures.joins,
    )
