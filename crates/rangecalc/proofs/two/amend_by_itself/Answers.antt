use Rattle.rangecalc.proofs.Itself.{overlaid_by_itself, without_itself}
use Rattle.rangecalc.proofs.two.amend_by_itself.Goals as goal

pub returns-in-Extend : goal.returns-in-Extend
returns-in-Extend g c = rw c.in-Extend.is (overlaid_by_itself g.K.MaybeBounded.order _)

pub returns-in-Subtract : goal.returns-in-Subtract
returns-in-Subtract g c =
    rw (c.in-Subtract.is, c.clear.ensures.empty) (without_itself g.K.MaybeBounded.order _)
