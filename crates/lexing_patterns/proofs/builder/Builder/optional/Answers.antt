use Rattle.std.proofs.Common.{Bool, true, false, arith}
use Rattle.regex_hir.specs.Re.{Re}
use Rattle.regex_hir.specs.Meaning.{optional}
use Rattle.lexing_patterns.specs.Leaves.{IsTaken}
use Rattle.lexing_patterns.specs.Sizes.{size_of}
use Rattle.lexing_patterns.proofs.Meanings.{language_optional}
use Rattle.lexing_patterns.proofs.Sizing.{optional_sized}
use Rattle.lexing_patterns.proofs.builder.Builder.optional.Goals as goal

taken_optional : (greedy : Bool) (a : Re) → IsTaken a → IsTaken (optional greedy a)
taken_optional true a is = grind arith
taken_optional false a is = grind arith

pub returns-clause-built : goal.returns-clause-built
returns-clause-built c = λ greedy a low high once.
    let made = c.or_empty.ensures in record {
      language = language_optional greedy made.reads once.language;
      within = made.within low high once.within;
      size = optional_sized greedy a c.or_empty.result (made.size (size_of a) once.size);
      taken = taken_optional greedy a once.taken;
    }
