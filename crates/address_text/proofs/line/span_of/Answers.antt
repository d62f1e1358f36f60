use Rattle.std.proofs.Common.{arith, ◌≡◌, ◌<◌, length}
use Rattle.std.proofs.lemmas.Grind.{common_steps}
use Rattle.std.specs.List.{after_first, before_first, position_or_len}
use Rattle.address_text.specs.Lines.{is_slash}
use Rattle.address_text.proofs.Spans.{prefix_says}
use Rattle.address_text.proofs.line.span_of.Goals as goal

pub returns-in-Some-clause-cases : goal.returns-in-Some-clause-cases
returns-in-Some-clause-cases c =
    let text = c.args.text.now in
    let has : position_or_len is_slash text < length text = grind (arith, common_steps) in
    let front : c.in-Some.address.now ≡ before_first is_slash text = grind (arith, common_steps) in
    let back : c.in-Some.digits.now ≡ after_first is_slash text = grind (arith, common_steps) in
    prefix_says c.args.strict c.args.family text c.in-Some.address.now c.in-Some.digits.now
    c.prefix_span.result has front back c.prefix_span.ensures.cases
