use Rattle.line_program.proofs.Listing.{shown_all, shown_more, shown_none}
use Rattle.address_lists.proofs.split.write_all.Goals as goal
use Rattle.std.proofs.Common.{rules}
use Rattle.std.proofs.Common.{arith}

pub loop-prefix-init : goal.loop-prefix-init
loop-prefix-init g c = search (rules, shown_none)

pub write_split_prefix-requires : goal.write_split_prefix-requires
write_split_prefix-requires g c = grind arith

pub loop-prefix-preserved : goal.loop-prefix-preserved
loop-prefix-preserved g c = grind (arith, shown_more)

pub returns : goal.returns
returns g c = grind (arith, shown_all)
