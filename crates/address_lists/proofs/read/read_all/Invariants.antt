use Rattle.std.proofs.Common.{◌≡◌, ◌<◌}
use Rattle.std.specs.Prelude.{IfSome}
use Rattle.address_lists.specs.Waiting.{HasSoFar}
use Rattle.address_lists.specs.declared.read.BadLines.TheVariants.{Refused}
use Rattle.address_lists.proofs.Reading.{IsReadTo}
use Rattle.address_lists.proofs.read.read_all.Given as goal

abbrev pub invariant-loop-number : goal.invariant-loop-number
invariant-loop-number g l =
    (l.others < l.number) × (l.bad_lines ≡ Refused → l.others ≡ 0)
    × IfSome (g.R.Read.remaining l.fn.input)
    (λ bytes. IsReadTo l.strict l.first bytes (g.R.Read.remaining l.input) l.number l.others
    (HasSoFar l.fn.list l.fn.waiting) (HasSoFar l.list l.waiting))
