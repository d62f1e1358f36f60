use Rattle.lexing_patterns.specs.Sizes.{size_of}
use Rattle.lexing_patterns.proofs.Faults.{taken_both}
use Rattle.lexing_patterns.proofs.Meanings.{language_same, language_cat}
use Rattle.lexing_patterns.proofs.builder.Builder.in_turn.Goals as goal

pub returns-clause-built : goal.returns-clause-built
returns-clause-built c =
    λ a b low middle high below above front back.
    let made = c.in_ok-in_turn.ensures in
    let same = made.reads low middle high back.within front.within in
    record {
      language = language_same (λ w _. same w) (language_cat front.language back.language);
      within = made.within low middle high below above back.within front.within;
      size = made.size (size_of a) (size_of b) front.size back.size;
      taken = taken_both a b front.taken back.taken;
    }
