use Rattle.std.proofs.Common.{◌<◌}
use Rattle.std.specs.Prelude.{IfSome}
use Rattle.address_lines.specs.Found.{IsSought}
use Rattle.address_lines.proofs.Found.{IsSearchedTo}
use Rattle.address_lines.proofs.grep.search_lines.Given as goal

abbrev pub invariant-loop-number : goal.invariant-loop-number
invariant-loop-number g l = (l.count < l.number) × IfSome (g.R.Read.remaining l.fn.input)
    (λ bytes. IsSearchedTo (IsSought l.list l.search.is_inverted) l.search.showing l.before bytes
    (g.R.Read.remaining l.input) (g.W.Write.contents l.fn.out) (g.W.Write.contents l.out) l.number
    l.count)
