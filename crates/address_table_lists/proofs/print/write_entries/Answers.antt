use Rattle.std.proofs.Common.{arith}
use Rattle.line_program.proofs.Listing.{shown_all, shown_more, shown_none}
use Rattle.address_table_lists.proofs.Shown.{drop_all_shown, entry_first}
use Rattle.address_table_lists.proofs.print.write_entries.Goals as goal

pub loop-entry-init : goal.loop-entry-init
loop-entry-init g c = shown_none _ _ _

pub loop-entry-preserved : goal.loop-entry-preserved
loop-entry-preserved g c = grind (arith, shown_more, entry_first)

pub returns : goal.returns
returns g c = grind (arith, shown_all, drop_all_shown)
