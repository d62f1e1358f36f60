use Rattle.std.proofs.Common.{[], arith}
use Rattle.lexing_patterns.specs.Sizes.{class_size}
use Rattle.lexing_patterns.proofs.Meanings.{language_same, language_empty}
use Rattle.lexing_patterns.proofs.builder.Builder.empty.Goals as goal

pub returns-clause-built : goal.returns-clause-built
returns-clause-built c = λ at.
    let size = c.or_empty.ensures.size (class_size []) c.nothing.ensures.size in record {
      language = language_same
          (λ w _. grind (arith, c.or_empty.ensures.reads w, c.nothing.ensures.reads w))
          language_empty;
      within = c.or_empty.ensures.within at at (c.nothing.ensures.within at at);
      size = record { leads = size.leads; ends = size.ends; nullable = size.nullable };
      taken = (λ has. has, λ has. has);
    }
