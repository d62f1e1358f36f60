use Rattle.std.proofs.Common.{◌≡◌, ◌≤◌, length, arith, take_all}
use Rattle.std.proofs.lemmas.List.{take_more}
use Rattle.lexing_classes.specs.declared.leads.Lead.{Lead}
use Rattle.lexing_classes.specs.Leads.{LeadsBy}
use Rattle.lexing_patterns.specs.declared.part.Edge.{Edge}
use Rattle.lexing_classes.proofs.Any.{any-push}
use Rattle.lexing_patterns.proofs.part.link.Goals as goal

pub loop-lead-preserved : goal.loop-lead-preserved
loop-lead-preserved c =
    λ p d q.
    let none : Lead = record { first = 0; last = 0; to = 0 } in
    let more = take_more c.args.leads.now c.loop-lead.lead-index none c.loop-lead-test.true in
    grind (arith, any-push (LeadsBy d q), any-push, c.loop-lead.invariant p d q)

pub returns : goal.returns
returns c =
    let all : length c.args.leads.now ≤ c.loop-lead.lead-index = omega arith in
    rw take_all at c.loop-lead.invariant
