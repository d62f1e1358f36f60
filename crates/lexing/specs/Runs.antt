-- The tokens of a text, one after the other.
use Rattle.std.specs.Prelude.{◌≡◌, ℕ, ◌+◌, ◌<◌, List, [], ◌∷◌, Option, Some, None, Result, Ok, Err, drop, length, ⊤}
use Rattle.std.specs.List.{AllByRecursion}
use Rattle.std.specs.Char.{len_utf8}
use Rattle.std.specs.Str.{chars}
use Rattle.lexing.specs.declared.lexer.Lexer.{Lexer}
use Rattle.lexing.specs.declared.token.Token.{Token}
use Rattle.lexing.specs.declared.token.LexError.{LexError}
use Rattle.lexing.specs.declared.token.LexError.TheVariants.{NoToken, Memory}
use Rattle.lexing.specs.Lexers.{IsSkipped}
use Rattle.lexing.specs.Tokens.{IsToken, BeginsWithNone}

-- between the two places of the text stands one character
abbrev pub IsBehindOne : List ℕ → ℕ → ℕ → Type 0
IsBehindOne text at after = (c : ℕ) × (chars (drop at text) ≡ c ∷ chars (drop after text))

-- at the place of the text stands the character
abbrev pub IsCharacterAt : List ℕ → ℕ → ℕ → Type 0
IsCharacterAt text at c = chars (drop at text) ≡ c ∷ chars (drop (at + len_utf8 c) text)

module _ (lexer : Lexer) (text : List ℕ) where
  -- the token stands at the place
  abbrev pub IsTokenAt : ℕ → Token → Type 0
  IsTokenAt at token = (n : ℕ) × IsToken lexer (drop at text) token.rule n × (token.start ≡ at)
      × (token.end ≡ at + n)

  -- from the one place to the other the text is these tokens, one after the other
  abbrev pub AreTokens : ℕ → List Token → ℕ → Type 0
  AreTokens at [] after = at ≡ after
  AreTokens at (token ∷ tokens) after = IsTokenAt at token × AreTokens token.end tokens after

  -- from the one place to the other stand tokens that are skipped
  abbrev pub AreSkipped : ℕ → ℕ → Type 0
  AreSkipped at after = (tokens : List Token) × AreTokens at tokens after
      × AllByRecursion (λ token. IsSkipped lexer token.rule) tokens

  -- at this place, which is not the end, no token begins
  abbrev pub IsStuckAt : ℕ → Type 0
  IsStuckAt at = (at < length text) × BeginsWithNone lexer (drop at text)

  -- why no token was found at the place: none begins there, or an allocation failed
  abbrev pub IsReasonAt : Type 0 → ℕ → LexError → Type 0
  IsReasonAt may_refuse at (NoToken place) = (place ≡ at) × BeginsWithNone lexer (drop at text)
  IsReasonAt may_refuse at Memory = may_refuse

  -- why the text is not cut into tokens: it is as far as the place, where none begins
  abbrev pub IsReason : LexError → Type 0
  IsReason (NoToken place) = ((tokens : List Token) × AreTokens 0 tokens place) × IsStuckAt place
  IsReason Memory = ⊤

  -- what comes next from the one place on, and the place after it: a token that is not skipped, the
  -- place of a character where none begins, the end, or a failed allocation
  abbrev pub IsNext : Type 0 → ℕ → Option (Result Token LexError) → ℕ → Type 0
  IsNext may_refuse at None after = AreSkipped at (length text) × (after ≡ length text)
  IsNext may_refuse at (Some (Ok token)) after = AreSkipped at token.start
      × IsTokenAt token.start token × (¬ IsSkipped lexer token.rule) × (after ≡ token.end)
  IsNext may_refuse at (Some (Err (NoToken place))) after = AreSkipped at place
      × IsStuckAt place × IsBehindOne text place after
  IsNext may_refuse at (Some (Err Memory)) after = may_refuse × (after ≡ length text)
