use Rattle.std.proofs.Common.{◌≡◌, ◌∙◌}
use Rattle.std.proofs.Common.{arith}
use Rattle.lexing.specs.Lexers.{rules_in}
use Rattle.lexing_patterns.proofs.Pouring.{same_both}
use Rattle.lexing_patterns.proofs.patterns.assembled.Goals as goal

pub returns-clause-poured : goal.returns-clause-poured
returns-clause-poured c = record {
  edges = λ p d q key. grind (arith, c.in_ok-rules_of.ensures.edges p d q key);
  starts = λ p. grind (arith, c.in_ok-rules_of.ensures.starts p);
  ends = λ one q r.
      same_both (c.in_ok-name_all.ensures.accepting q r)
      (rw c.deref.ensures.value
      at (c.in_ok-accept_all.ensures.accepting (rw c.deref.ensures.value one)
      c.new-lexer.ensures.accepting q r));
}
