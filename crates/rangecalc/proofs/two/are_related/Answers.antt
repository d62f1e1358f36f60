use Rattle.rangecalc.proofs.two.are_related.Goals as goal

pub returns-in-Equals : goal.returns-in-Equals
returns-in-Equals g c = rw c.in-Equals.is (c.eq.ensures.same g.met.K.Complete.complete)
