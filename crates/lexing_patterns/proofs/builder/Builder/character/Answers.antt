use Rattle.std.proofs.Common.{◌≡◌, length, arith}
use Rattle.std.proofs.lemmas.Bool.Decides.{nat_tests}
use Rattle.std.proofs.lemmas.Result.{IfOk-weaker}
use Rattle.lexing_patterns.proofs.Making.{none_built}
use Rattle.lexing_patterns.proofs.Meanings.{language_same, language_char_in}
use Rattle.lexing_patterns.proofs.builder.Builder.character.Goals as goal

pub returns-then-is_empty-clause-built : goal.returns-then-is_empty-clause-built
returns-then-is_empty-clause-built c =
    IfOk-weaker c.nothing.result _ _
    (λ part is.
    let none : length c.args.ranges.now ≡ 0 = grind (arith, nat_tests) in
    none_built c.args.ranges.now part _ _ none c.nothing.ensures.kept is)
    c.nothing.ensures.built

pub returns-clause-built : goal.returns-clause-built
returns-clause-built c =
    let made = c.in_ok-one_of.ensures in record {
      language = language_same made.reads (language_char_in c.args.ranges.now);
      within = grind (arith, made.within);
      size = made.size;
      taken = (λ has. has, λ has. has);
    }
