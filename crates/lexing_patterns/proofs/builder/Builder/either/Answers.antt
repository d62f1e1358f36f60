use Rattle.lexing_patterns.specs.Sizes.{size_of}
use Rattle.lexing_patterns.proofs.Faults.{taken_both}
use Rattle.lexing_patterns.proofs.Meanings.{language_same, language_alt}
use Rattle.lexing_patterns.proofs.builder.Builder.either.Goals as goal

pub returns-clause-built : goal.returns-clause-built
returns-clause-built c =
    λ a b low middle high below above one other.
    let made = c.in_ok-either.ensures in
    let same = made.reads low middle high other.within one.within in
    record {
      language = language_same (λ w _. same w) (language_alt one.language other.language);
      within = made.within low middle high below above other.within one.within;
      size = made.size (size_of a) (size_of b) one.size other.size;
      taken = taken_both a b one.taken other.taken;
    }
