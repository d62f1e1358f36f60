use Rattle.std.proofs.Common.{refl, inl}
use Rattle.tokens.proofs.Machines.{found_as}
use Rattle.tokens.proofs.rules.modes_of.Goals as goal

pub built-requires : goal.built-requires
built-requires g c = rw c.in-None.is refl

pub returns-in-None-clause-modes : goal.returns-in-None-clause-modes
returns-in-None-clause-modes g c =
    found_as c.built.result _ _ (λ modes are. (rw c.in-None.is refl, are)) c.built.ensures.modes

pub returns-in_ok-refuse-in-Some-clause-refused : goal.returns-in_ok-refuse-in-Some-clause-refused
returns-in_ok-refuse-in-Some-clause-refused g c = λ all names count modes read numbers.
    let (said, tells, appended) = c.in_ok-refuse-in-Some.ensures all names modes read numbers in
    (said, inl tells, appended)
