use Rattle.lexing_patterns.specs.Sizes.{size_of}
use Rattle.lexing_patterns.proofs.Meanings.{language_same, language_plus}
use Rattle.lexing_patterns.proofs.builder.Builder.repeated.Goals as goal

pub returns-clause-built : goal.returns-clause-built
returns-clause-built c =
    λ greedy a low high once.
    let made = c.in_ok-repeated.ensures in
    record {
      language = language_same (λ w _. made.reads w) (language_plus once.language);
      within = made.within low high once.within;
      size = made.size (size_of a) once.size;
      taken = once.taken;
    }
