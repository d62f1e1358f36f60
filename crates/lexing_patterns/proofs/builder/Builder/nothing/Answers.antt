use Rattle.std.proofs.Common.{arith}
use Rattle.lexing_patterns.proofs.Making.{in_no_range}
use Rattle.lexing_patterns.proofs.Meanings.{language_same, language_nothing}
use Rattle.lexing_patterns.proofs.builder.Builder.nothing.Goals as goal

pub returns-clause-built : goal.returns-clause-built
returns-clause-built c = λ at. record {
  language = language_same (λ w _. grind (arith, c.nothing.ensures.reads w)) language_nothing;
  within = c.nothing.ensures.within at at;
  size = c.nothing.ensures.size;
  taken = (λ has. has, λ has. has in_no_range);
}
