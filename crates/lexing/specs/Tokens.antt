-- The token of a lexer that a text begins with.
use Rattle.std.specs.Prelude.{ℕ, List}
use Rattle.state_sets.specs.Tokens as tokens
use Rattle.lexing.specs.declared.lexer.Lexer.{Lexer}
use Rattle.lexing.specs.Lexers.{IsAcceptedBy}

module _ (lexer : Lexer) (text : List ℕ) where
  -- the text begins with a token of the rule, of so many bytes
  abbrev pub IsToken : ℕ → ℕ → Type 0
  IsToken = tokens.IsToken (IsAcceptedBy lexer) text

  -- no rule accepts a beginning of the text that is not empty
  abbrev pub BeginsWithNone : Type 0
  BeginsWithNone = tokens.BeginsWithNone (IsAcceptedBy lexer) text
