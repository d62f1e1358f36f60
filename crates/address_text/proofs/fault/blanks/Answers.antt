use Rattle.std.proofs.Common.{◌≡◌, ◌≤◌, length, sym, ◌∙◌, arith}
use Rattle.std.proofs.lemmas.Grind.{common_steps}
use Rattle.std.proofs.lemmas.List.Sums.{prefix_len_is}
use Rattle.std.specs.Char.{is_ascii_whitespace}
use Rattle.address_text.proofs.fault.blanks.Goals as goal

pub returns-clause-count : goal.returns-clause-count
returns-clause-count c =
    let text = c.args.text.now in
    let (many, is, long, passes, stops) = c.trim_ascii_start.ensures.value in
    let within : many ≤ length text = omega (arith, long) in
    let same : c.saturating_sub.result ≡ many =
    grind (arith, common_steps) in
    same ∙ sym (prefix_len_is is_ascii_whitespace text many 0 within passes stops)
