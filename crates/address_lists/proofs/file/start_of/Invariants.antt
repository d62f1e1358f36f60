use Rattle.std.specs.Prelude.{IfSome}
use Rattle.address_lists.proofs.Blanks.{IsBlankTo}
use Rattle.address_lists.proofs.file.start_of.Given as goal

abbrev pub invariant-loop-number : goal.invariant-loop-number
invariant-loop-number g l =
    IfSome (g.R.Read.remaining l.fn.input)
    (λ bytes. IsBlankTo bytes (g.R.Read.remaining l.input) l.blanks.items l.number)
