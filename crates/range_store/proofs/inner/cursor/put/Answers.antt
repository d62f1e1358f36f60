use Rattle.std.proofs.Common.{arith}
use Rattle.range_store.proofs.Edits.{put_over}
use Rattle.range_store.proofs.inner.cursor.put.Goals as goal

pub returns-clause-list : goal.returns-clause-list
returns-clause-list g c =
    grind (arith, put_over)
