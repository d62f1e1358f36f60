use Rattle.range_map.proofs.CloneLists.{bound_never_fails}
use Rattle.range_map.proofs.map.update.clone_range.Goals as goal

pub returns-in_err-start-clause-succeeds : goal.returns-in_err-start-clause-succeeds
returns-in_err-start-clause-succeeds g c never =
    absurd (c.in_err-start.ensures (bound_never_fails never _))

pub returns-in_err-end-clause-succeeds : goal.returns-in_err-end-clause-succeeds
returns-in_err-end-clause-succeeds g c never =
    absurd (c.in_err-end.ensures (bound_never_fails never _))
