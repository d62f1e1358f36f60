use Rattle.address_lists.proofs.Lookups.{run_fits, run_tells}
use Rattle.address_lists.proofs.lookup.write_told.Goals as goal
use Rattle.std.proofs.Common.{arith}

pub write_told_run-requires : goal.write_told_run-requires
write_told_run-requires g c = grind (arith, run_fits)

pub returns-clause-told : goal.returns-clause-told
returns-clause-told g c = grind (arith, run_tells)

pub returns-clause-written : goal.returns-clause-written
returns-clause-written g c = grind arith
