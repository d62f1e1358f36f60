use Rattle.std.proofs.Common.{◌≡◌, ◌∙◌, subst, sym}
use denote.Enum.Bare.{differs_false}
use Rattle.address_text.specs.contracts.family.Family.{the_type}
use Rattle.address_text.specs.declared.line.Line.TheVariants.{Addresses}
use Rattle.address_lists.specs.Waiting.{IsTogether}
use Rattle.address_lists.proofs.Lines.{spans_together}
use Rattle.address_lists.proofs.waiting.together.Goals as goal

pub returns-in_ok-start-in-Addresses-Addresses-clause-says :
    goal.returns-in_ok-start-in-Addresses-Addresses-clause-says
returns-in_ok-start-in-Addresses-Addresses-clause-says c =
    let l = c.in-Addresses-Addresses in
    let both = c.in_ok-start-in-Addresses-Addresses in
    let same : l.family ≡ l.other =
    differs_false the_type tt l.family l.other (sym c.ne.ensures ∙ c.if-ne.false) in
    let says = spans_together l.family l.start l.end l.from l.to both.start both.end both.ensures in
    subst (λ line. IsTogether line c.args.second (Addresses l.family both.start both.end))
    (sym l.is-0)
    (subst (λ line. IsTogether (Addresses l.family l.start l.end) line
    (Addresses l.family both.start both.end)) (sym l.is-1)
    (subst (λ other. IsTogether (Addresses l.family l.start l.end) (Addresses other l.from l.to)
    (Addresses l.family both.start both.end)) same says))
