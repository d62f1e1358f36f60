-- All that the tokens of a text are, by the calls that give them.
use Rattle.std.specs.Prelude.{◌≡◌, ℕ, List, [], ◌∷◌, Option, Result, Ok, Err, length}
use Rattle.lexing.specs.declared.lexer.Lexer.{Lexer}
use Rattle.lexing.specs.declared.token.Token.{Token}
use Rattle.lexing.specs.declared.token.LexError.{LexError}
use Rattle.lexing.specs.declared.token.LexError.TheVariants.{NoToken, Memory}
use Rattle.lexing.specs.Left.{Left}
use Rattle.lexing.specs.Lexers.{IsSkipped}
use Rattle.lexing.specs.Runs.{IsBehindOne, IsNext, IsStuckAt, IsTokenAt}

-- one call of `next`, of the tokens of a scanner
abbrev pub GivesNext : {S : Type 0} → (S → Lexer) → (S → Type 0) → Left S
    → Option (Result Token LexError) → Left S → Type 0
GivesNext lexer may_refuse before item after = (after.scanner ≡ before.scanner)
    × (after.text ≡ before.text)
    × IsNext (lexer before.scanner) before.text (may_refuse before.scanner) before.place item
    after.place

module _ (lexer : Lexer) (text : List ℕ) (may_refuse : Type 0) where
  -- from the place on the text is tokens, and characters with which none begins, one after the
  -- other up to its end, unless an allocation fails. These are given but for the tokens that are
  -- skipped
  pub data AreGiven : ℕ → List (Result Token LexError) → Type 0 where
    At_end : (at : ℕ) → at ≡ length text → AreGiven at []
    Skipped_token : (at : ℕ) (token : Token) (items : List (Result Token LexError))
        → IsTokenAt lexer text at token → IsSkipped lexer token.rule → AreGiven token.end items
        → AreGiven at items
    Given_token : (at : ℕ) (token : Token) (items : List (Result Token LexError))
        → IsTokenAt lexer text at token → ¬ IsSkipped lexer token.rule → AreGiven token.end items
        → AreGiven at (Ok token ∷ items)
    Single_character : (at next : ℕ) (items : List (Result Token LexError))
        → IsStuckAt lexer text at → IsBehindOne text at next → AreGiven next items
        → AreGiven at (Err (NoToken at) ∷ items)
    Refused_memory : (at : ℕ) (items : List (Result Token LexError)) → may_refuse
        → AreGiven at (Err Memory ∷ items)
