use Rattle.std.proofs.Common.{arith}
use Rattle.range_store.proofs.Edits.{removed_one}
use Rattle.range_store.proofs.inner.cursor.remove_rest.Goals as goal

pub loop-removed-preserved : goal.loop-removed-preserved
loop-removed-preserved g c =
    grind (arith, removed_one)
