use Rattle.std.proofs.Common.{refl, inl, arith}
use Rattle.lexing_patterns.proofs.builder.Builder.spend_edges.Goals as goal

pub returns-in-None-clause-refused : goal.returns-in-None-clause-refused
returns-in-None-clause-refused c = inl (refl, omega (arith, c.in-None.ensures))
