use Rattle.std.proofs.Common.{arith}
use Rattle.range_store.proofs.ListRanks.{place_at}
use Rattle.range_store.proofs.Edits.{replaced_run, set_parts}
use Rattle.range_store.proofs.inner.cursor.replace_run.Goals as goal

pub returns-in-Some-clause-list : goal.returns-in-Some-clause-list
returns-in-Some-clause-list g c =
    grind (arith, set_parts)

pub returns-in_default-clause-list : goal.returns-in_default-clause-list
returns-in_default-clause-list g c =
    grind (arith, place_at, replaced_run)
