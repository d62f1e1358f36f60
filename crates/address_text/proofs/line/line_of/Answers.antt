use Rattle.std.proofs.Common.{arith, ◌≡◌, ◌≢◌, [], ◌∙◌}
use Rattle.std.proofs.lemmas.Grind.{common_steps}
use Rattle.address_text.specs.Lines.{content}
use Rattle.address_text.proofs.Spans.{says_neither}
use Rattle.address_text.proofs.line.line_of.Goals as goal

pub returns-in_err-first-clause-cases : goal.returns-in_err-first-clause-cases
returns-in_err-first-clause-cases c =
    let line = c.args.line.now in
    let strict = c.args.strict in
    let text_is : c.in-Ok.text.now ≡ content line =
    c.in-Ok.ensures.cases.0 ∙ c.content_of.ensures in
    let some : c.in-Ok.text.now ≢ [] = λ none. grind (arith, common_steps) in
    rw c.from_residual.ensures
    (says_neither strict line (λ none. some (text_is ∙ none))
    (rw text_is at c.in_default-span_of.ensures.cases) (rw text_is at c.in_err-first.ensures.cases))
