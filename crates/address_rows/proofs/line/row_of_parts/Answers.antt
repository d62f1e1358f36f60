use Rattle.std.proofs.Common.{ℕ, List, subst, sym}
use Rattle.address_rows.specs.Lines.{IsRow}
use Rattle.address_rows.proofs.line.row_of_parts.Goals as goal

pub returns-in_err-line-clause-cases : goal.returns-in_err-line-clause-cases
returns-in_err-line-clause-cases c =
    rw c.from_residual.ensures (λ row. c.in_err-line.ensures.cases c.args.value.now row)

pub returns-clause-cases : goal.returns-clause-cases
returns-clause-cases c =
    subst (λ (text : List ℕ). IsRow c.args.strict c.args.addresses.now c.args.value.now
    (record { addresses = c.in_ok-line.line; value = text })) (sym c.in_ok-text.ensures.1)
    (c.in_ok-line.ensures.cases c.args.value.now c.in_ok-text.ensures.0)
