use Rattle.range_edit.proofs.Common.{arith, common_steps, ◌≡◌, None}
use Rattle.range_edit.proofs.Freeing.{seam_alike, seam_stands}
use Rattle.range_edit.proofs.Surrounded.{none_reach}
use Rattle.range_edit.proofs.free.bind_free.Goals as goal

pub put_between-requires-clause-before : goal.put_between-requires-clause-before
put_between-requires-clause-before g c =
    let before : c.joins_before-before.result ≡ None = grind (arith, common_steps) in
    rw before at c.joins_before-before.ensures.joins

pub put_between-requires-clause-after : goal.put_between-requires-clause-after
put_between-requires-clause-after g c =
    let after : c.joins_after-after.result ≡ None = grind (arith, common_steps) in
    rw after at c.joins_after-after.ensures.joins

pub put_merged-requires-clause-left : goal.put_merged-requires-clause-left
put_merged-requires-clause-left g c = grind (arith, common_steps, none_reach, seam_stands, seam_alike)

pub put_merged-requires-clause-right : goal.put_merged-requires-clause-right
put_merged-requires-clause-right g c = grind (arith, common_steps, none_reach, seam_stands, seam_alike)
