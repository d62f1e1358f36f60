use Rattle.std.proofs.Common.{rules}
use Rattle.range_algebra.proofs.any.AnyRange.pick.Goals as goal

pub returns-in-Some-clause-nonempty : goal.returns-in-Some-clause-nonempty
returns-in-Some-clause-nonempty g c = search rules

pub returns-in-Some-clause-held : goal.returns-in-Some-clause-held
returns-in-Some-clause-held g c = search rules

pub returns-in-None-clause-nonempty : goal.returns-in-None-clause-nonempty
returns-in-None-clause-nonempty g c = search rules

pub returns-in-None-clause-held : goal.returns-in-None-clause-held
returns-in-None-clause-held g c = search rules
