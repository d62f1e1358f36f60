use Rattle.std.proofs.Common.{◌≡◌, arith}
use Rattle.address_text.proofs.Blocks.{block_fits}
use Rattle.address_text.proofs.Spans.{address_unique, length_unique, no_length}
use Rattle.std.proofs.Math.Pow.{pow_pos}
use Rattle.address_text.proofs.line.prefix_span.Goals as goal

pub returns-in_err-length-clause-cases : goal.returns-in_err-length-clause-cases
returns-in_err-length-clause-cases c =
    rw c.from_residual-in_err-length.ensures
    (no_length c.args.strict c.args.family c.args.address.now c.args.digits.now
    c.in_err-length.ensures.cases)

pub returns-then-first-number-clause-cases : goal.returns-then-first-number-clause-cases
returns-then-first-number-clause-cases c = λ from to span.
    let same : span.address ≡ c.in_ok-number.number =
    address_unique c.args.family c.args.address.now span.address c.in_ok-number.number span.written
    c.in_ok-number.ensures.cases in
    let long : span.length ≡ c.in_ok-length.length =
    length_unique c.args.family c.args.digits.now span.length c.in_ok-length.length span.told
    c.in_ok-length.ensures.cases in
    grind arith

pub returns-clause-fits : goal.returns-clause-fits
returns-clause-fits c = grind (arith, block_fits, pow_pos)
