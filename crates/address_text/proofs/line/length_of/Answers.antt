use Rattle.address_text.proofs.Spans.{mask_tells}
use Rattle.address_text.proofs.line.length_of.Goals as goal

pub returns-in_ok-read-in-None-clause-cases : goal.returns-in_ok-read-in-None-clause-cases
returns-in_ok-read-in-None-clause-cases c =
    mask_tells c.args.family c.args.text.now c.in_ok-read-in-None.field-0 c.mask_length.result
    c.in-None.ensures c.in_ok-read-in-None.ensures.cases (rw c.width.ensures at c.mask_length.ensures)
