use Rattle.address_text.proofs.Spans.{address_unique}
use Rattle.address_text.proofs.line.range_span.Goals as goal
use Rattle.std.proofs.Common.{arith}

pub returns-then-first-last-clause-cases : goal.returns-then-first-last-clause-cases
returns-then-first-last-clause-cases c = grind (arith, address_unique)
