use Rattle.std.proofs.Common.{◌≡◌, refl, inl, inr, length, Some, arith}
use Rattle.std.proofs.lemmas.Bool.{cases_lt}
use Rattle.std.proofs.lemmas.Option.{slice_get_read, slice_get_within}
use Rattle.lexing.specs.Tables.{rule_at}
use Rattle.lexing.proofs.Leads.{any_at, none_of_all}
use Rattle.lexing.proofs.table.Table.leads_to_rule.Goals as goal

pub returns-then-is_of_rule : goal.returns-then-is_of_rule
returns-then-is_of_rule c =
    let xs = c.args.from.now.leads.items in
    let x = c.index.result.now in
    let there = slice_get_read xs (length xs) c.loop-at.at x refl (omega arith) c.index.ensures in (
      λ t. any_at (λ lead. rule_at c.args.self.now.states.items (Some lead.next) ≡ Some c.args.rule) xs c.loop-at.at x there (c.if-is_of_rule.ensures.0 refl),
      λ any. refl,
    )

pub loop-at-preserved : goal.loop-at-preserved
loop-at-preserved c = λ i x below at holds.
    let xs = c.args.from.now.leads.items in
    let y = c.index.result.now in
    let there = slice_get_read xs (length xs) c.loop-at.at y refl (omega arith) c.index.ensures in
    elim (cases_lt i c.loop-at.at) [
      | inl less ↦ c.loop-at.invariant i x less at holds
      | inr more ↦
          let last : i ≡ c.loop-at.at = omega (arith, below, more) in
          let here = rw last at at in
          let same : y ≡ x = cc in
          let e = c.if-is_of_rule.ensures.1 (rw same holds) in absurd cc
    ]

pub returns : goal.returns
returns c =
    let xs = c.args.from.now.leads.items in (
      λ t. absurd cc,
      λ any.
          absurd (none_of_all (λ lead. rule_at c.args.self.now.states.items (Some lead.next) ≡ Some c.args.rule) xs
          (λ i x at. let within = slice_get_within xs i x at in
          c.loop-at.invariant i x (omega (arith, within)) at) any),
    )
