use Rattle.std.proofs.Common.{inl, inr, refl}
use Rattle.tokens.proofs.fault.first_line.Goals as goal

pub returns-in-Some : goal.returns-in-Some
returns-in-Some c = (c.in-Some.ensures.1, inr (_, c.in-Some.ensures.0))

pub returns-in-None : goal.returns-in-None
returns-in-None c = (c.in-None.ensures, inl refl)
