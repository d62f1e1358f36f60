use Rattle.address_table_lists.proofs.Counts.{IsCountedTo}
use Rattle.address_table_lists.proofs.count.write_value_counts.Given as goal

abbrev pub invariant-loop-number : goal.invariant-loop-number
invariant-loop-number g l =
    IsCountedTo l.table l.texts l.number (g.W.Write.contents l.fn.out) (g.W.Write.contents l.out)
