use Rattle.std.proofs.Common.{◌≡◌, ◌∙◌, ap}
use Rattle.lexing_mode_patterns.specs.Rules.{IsOfRules, patterns_in, patterns_of}
use Rattle.lexing_mode_patterns.proofs.build.machine_of.Goals as goal

pub returns-in_default-clause-refused : goal.returns-in_default-clause-refused
returns-in_default-clause-refused c = λ count within. c.fault_in.ensures.refused count c.args.budget

pub returns-in-Ok-build-clause-machine : goal.returns-in-Ok-build-clause-machine
returns-in-Ok-build-clause-machine c =
    let same : c.deref-2.result.now ≡ patterns_in c.args.rules.now c.args.mode =
    c.deref-2.ensures.value ∙ c.in_ok-patterns.ensures
    ∙ ap patterns_of (c.deref.ensures.value ∙ c.in_ok-held.ensures) in
    let is : IsOfRules c.deref-2.result.now c.in-Ok.lexer = record {
      counted = c.in-Ok.ensures.count;
      tokens = c.in-Ok.ensures.tokens;
      named = c.in-Ok.ensures.named;
      skips = c.in-Ok.ensures.skips;
    } in
    rw c.in-Ok-build.ensures.lexer (rw same at is)

pub returns-in-Err-TooLarge-clause-refused : goal.returns-in-Err-TooLarge-clause-refused
returns-in-Err-TooLarge-clause-refused c = λ count within.
    let same : c.deref-2.result.now ≡ patterns_in c.args.rules.now c.args.mode =
    c.deref-2.ensures.value ∙ c.in_ok-patterns.ensures
    ∙ ap patterns_of (c.deref.ensures.value ∙ c.in_ok-held.ensures) in (
      within,
      (
        c.in-Ok.lexer,
        rw same at c.in-Ok.ensures.tokens,
        rw c.in-Err-TooLarge.field-0-is at c.in-Err-TooLarge.ensures.refused,
      ),
    )
