use Rattle.std.proofs.Common.{◌≡◌, ◌<◌, IfSome}
use Rattle.address_lists.specs.declared.read.BadLines.TheVariants.{Refused}
use Rattle.address_rows.specs.Lines.{IsSkipped}
use Rattle.address_table_lists.specs.Reading.{SaysIn}
use Rattle.address_table_lists.proofs.ReadRows.{IsReadTo}
use Rattle.address_table_lists.proofs.read.read_rows.Given as goal

abbrev pub invariant-loop-number : goal.invariant-loop-number
invariant-loop-number g l =
    (l.others < l.number) × (l.reading.bad_lines ≡ Refused → l.others ≡ 0)
    × IfSome (g.R.Read.remaining l.fn.input)
    (λ bytes. IsReadTo (SaysIn l.reading) (IsSkipped l.header) bytes
    (g.R.Read.remaining l.input) l.number l.others l.fn.rows l.rows)
