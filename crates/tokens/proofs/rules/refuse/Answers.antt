use Rattle.std.proofs.Common.{◌∙◌, ap}
use Rattle.lexing_mode_patterns.specs.Rules.{patterns_of}
use Rattle.line_program.proofs.Listing.{on_ok_as}
use Rattle.tokens.proofs.Machines.{no_rule_first}
use Rattle.tokens.proofs.rules.refuse.Goals as goal

pub show_bad_rule-requires : goal.show_bad_rule-requires
show_bad_rule-requires g c =
    rw (c.deref-2.ensures.value ∙ c.in_ok-patterns.ensures ∙ ap patterns_of c.deref.ensures.value)
    at c.in-Err.ensures.refused

pub returns-in-Ok : goal.returns-in-Ok
returns-in-Ok g c = λ all names modes read numbers.
    let (patterns, taken) =
    rw (c.deref-2.ensures.value ∙ c.in_ok-patterns.ensures ∙ ap patterns_of c.deref.ensures.value)
    at c.in-Ok.ensures.taken in
    on_ok_as c.show_no_rule.result _ _
    (λ shown. let (said, tells, appended) = shown in (
      said,
      no_rule_first c.args.path.now names all c.args.number c.args.rules.now.rules.items patterns
          said modes taken (rw c.requires at read) tells,
      appended,
    ))
    c.show_no_rule.ensures

pub returns : goal.returns
returns g c = λ all names modes read numbers. c.show_bad_rule.ensures all names modes numbers
