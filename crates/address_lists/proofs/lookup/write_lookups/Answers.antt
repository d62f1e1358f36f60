use Rattle.std.proofs.lemmas.List.{drop_all}
use Rattle.line_program.proofs.Listing.{shown_all, shown_more, shown_none}
use Rattle.line_program.proofs.Told.{item_first, told_all, told_more, told_none}
use Rattle.address_lists.proofs.lookup.write_lookups.Goals as goal
use Rattle.std.proofs.Common.{arith}

pub loop-address-init : goal.loop-address-init
loop-address-init g c = grind (arith, shown_none, told_none)

pub loop-address-preserved : goal.loop-address-preserved
loop-address-preserved g c = grind (arith, shown_more, item_first, told_more)

pub returns-clause-told : goal.returns-clause-told
returns-clause-told g c = grind (arith, told_all, drop_all)

pub returns-clause-written : goal.returns-clause-written
returns-clause-written g c = grind (arith, shown_all, drop_all)
