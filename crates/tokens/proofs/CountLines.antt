-- Counts that are written, one after the other.
use Rattle.std.proofs.Common.{◌≡◌, refl, ap, ◌∙◌, arith, ℕ, suc, ◌+◌, Bool, ◌&&◌, List, [], ◌∷◌, ◌++◌, Option, Ok, Err}
use Rattle.line_program.specs.Listing.{SpellsEach, Writes}
use Rattle.line_program.proofs.Listing.{appends_then}
use Rattle.lexing.specs.declared.lexer.Lexer.{Lexer}
use Rattle.lexing.specs.declared.machine.Machine.{Machine}
use Rattle.lexing_modes.specs.declared.modes.Modes.{Modes}
use Rattle.tokens.specs.declared.form.Form.TheVariants.{Silent}
use Rattle.tokens.specs.Counts.{AreCountLines, AreCounted, IsModeCounted, WritesCount, count_of}
use Rattle.tokens.specs.Printing.{IsLine, Next}

-- nothing is printed in silence
pub nothing_silent : (modes : Modes Machine) (text : List ℕ) (items : List Next) (said : List ℕ)
    → SpellsEach (IsLine modes Silent text) items said → said ≡ []
nothing_silent modes text [] said is = is
nothing_silent modes text (Ok found ∷ items) said (line, rest, (name, named, none), more, is) =
    is ∙ ap (λ l. l ++ rest) none ∙ nothing_silent modes text items rest more
nothing_silent modes text (Err error ∷ items) said (line, rest, none, more, is) =
    is ∙ ap (λ l. l ++ rest) none ∙ nothing_silent modes text items rest more

-- the line of a rule more
pub lines_more : (lexer : Lexer) (numbers : List ℕ) (rule count : ℕ)
    (before now after : Option (List ℕ)) → count ≡ count_of rule numbers
    → Writes before now (AreCountLines lexer numbers rule)
    → Writes now after (WritesCount lexer rule count)
    → Writes before after (AreCountLines lexer numbers (rule + 1))
lines_more lexer numbers rule count before now after counted (front, are, first) (line, is, more) =
    let step : rule + 1 ≡ suc rule = omega arith in
    rw step (
      front ++ line,
      (front, line, are, rw (← counted) is, refl),
      appends_then before now after front line first more,
    )

-- the lines of a mode more
pub modes_more : (modes : Modes Machine) (text : List ℕ) (mode : ℕ) (was one both : Bool)
    (before now after : Option (List ℕ)) → both ≡ (was && one)
    → Writes before now (AreCounted modes text mode was)
    → Writes now after (IsModeCounted modes text mode one)
    → Writes before after (AreCounted modes text (mode + 1) both)
modes_more modes text mode was one both before now after joined (front, are, first) (lines, is, more) =
    let step : mode + 1 ≡ suc mode = omega arith in
    rw step (
      front ++ lines,
      (was, one, front, lines, are, is, joined, refl),
      appends_then before now after front lines first more,
    )
