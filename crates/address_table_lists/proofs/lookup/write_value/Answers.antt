use Rattle.std.proofs.Common.{arith}
use Rattle.address_table_lists.proofs.Found.{found_fits, found_tells}
use Rattle.address_table_lists.proofs.lookup.write_value.Goals as goal

pub write_stored-requires : goal.write_stored-requires
write_stored-requires g c = grind (arith, found_fits)

pub returns-clause-told : goal.returns-clause-told
returns-clause-told g c = grind (arith, found_tells)

pub returns-clause-written : goal.returns-clause-written
returns-clause-written g c = grind arith
