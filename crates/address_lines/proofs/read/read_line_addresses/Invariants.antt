use Rattle.std.specs.Prelude.{IfSome}
use Rattle.address_lines.proofs.ReadLines.{IsReadTo}
use Rattle.address_lines.proofs.read.read_line_addresses.Given as goal

abbrev pub invariant-loop-number : goal.invariant-loop-number
invariant-loop-number g l = IfSome (g.R.Read.remaining l.fn.input)
    (λ bytes. IsReadTo bytes (g.R.Read.remaining l.input) l.number l.addresses.items)
