use Rattle.std.proofs.Common.{rules, of_calls, nat_eq}
use Rattle.address_table_commands.specs.Differences.{IsChangeOf, change_eq}
use Rattle.address_table_commands.proofs.Compared.{combined_as}
use Rattle.address_table_commands.proofs.differences.family_changes.Goals as goal

pub returns-in-Ok : goal.returns-in-Ok
returns-in-Ok g c = record {
  made =
      combined_as g.A.MaybeBounded.order nat_eq nat_eq change_eq _
      (IsChangeOf c.args.texts.now c.args.others.now)
      (λ left right answer is.
      rw (← is.shows, ← is.other_shows) (let says = is.says in search (rules, of_calls))) _ _ _
      c.in-Ok.ensures.bound;
  canonical = c.in-Ok.ensures.canonical;
}
