use Rattle.range_edit.proofs.Common.{arith, common_steps, bound_of}
use Rattle.range_edit.proofs.Freeing.{seam_stands}
use Rattle.range_edit.proofs.borders.seam_at.Goals as goal

pub returns-in-Some-default-clause-seam : goal.returns-in-Some-default-clause-seam
returns-in-Some-default-clause-seam g c = grind (arith, common_steps, seam_stands, bound_of)

pub returns-in-None-None-clause-seam : goal.returns-in-None-None-clause-seam
returns-in-None-None-clause-seam g c = grind (arith, common_steps, seam_stands, bound_of)

pub returns-in_ok-cut-in-None-Some-clause-seam : goal.returns-in_ok-cut-in-None-Some-clause-seam
returns-in_ok-cut-in-None-Some-clause-seam g c = grind (arith, common_steps)
