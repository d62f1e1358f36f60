use Rattle.std.proofs.Common.{drop, map}
use Rattle.line_program.proofs.Listing.{HasShown}
use Rattle.address_tables.specs.Tables.{shown}
use Rattle.address_table_lists.specs.Printed.{IsEntryLine}
use Rattle.address_table_lists.proofs.print.write_entries.Given as goal

abbrev pub invariant-loop-entry : goal.invariant-loop-entry
invariant-loop-entry g l =
    HasShown (IsEntryLine l.form g.A.FamilyAddress.its_family g.A.Address.number
    (map (λ v. v.items) l.values)) (map shown l.entries) (map shown (drop l.entry-index l.entries))
    (g.W.Write.contents l.fn.out) (g.W.Write.contents l.out)
