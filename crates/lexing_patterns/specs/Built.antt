-- The part that a pattern becomes.
use Rattle.std.specs.Prelude.{ℕ}
use Rattle.regex_hir.specs.Re.{Re}
use Rattle.lexing_patterns.specs.declared.part.Part.{Part}
use Rattle.lexing_patterns.specs.Languages.{IsLanguage}
use Rattle.lexing_patterns.specs.Leaves.{IsTaken}
use Rattle.lexing_patterns.specs.Parts.{Reads, IsWithin}
use Rattle.lexing_patterns.specs.Sizes.{HasSize, size_of}

-- the part accepts what the pattern matches, which is taken; it is as large as that, and its states
-- are those from low up to high
pub record IsBuilt (re : Re) (part : Part) (low high : ℕ) : Type 0 where
  pub language : IsLanguage re (Reads part)
  pub within : IsWithin part low high
  pub size : HasSize part (size_of re)
  pub taken : IsTaken re
