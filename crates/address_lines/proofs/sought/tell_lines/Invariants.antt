use Rattle.std.specs.Prelude.{IfSome}
use Rattle.address_lines.proofs.Told.{IsToldTo}
use Rattle.address_lines.proofs.sought.tell_lines.Given as goal

abbrev pub invariant-loop-number : goal.invariant-loop-number
invariant-loop-number g l = IfSome (g.R.Read.remaining l.fn.input)
    (λ bytes. IsToldTo l.list bytes (g.R.Read.remaining l.input) (g.W.Write.contents l.fn.out)
    (g.W.Write.contents l.out) l.number l.has_all)
