-- The tokens of a text, written to an array.
use Rattle.std.specs.Prelude.{◌≡◌, ℕ, ◌<◌, ◌≤◌, ◌⊎◌, List, Result, Ok, Err, if◌then◌else◌, length, map, slice_set, take}
use Rattle.std.specs.List.{AllByRecursion}
use Rattle.lexing.specs.declared.lexer.Lexer.{Lexer}
use Rattle.lexing.specs.declared.placed.Placed.{Placed}
use Rattle.lexing.specs.declared.token.Token.{Token}
use Rattle.lexing.specs.declared.token.LexError.{LexError}
use Rattle.lexing.specs.declared.token.LexError.TheVariants.{NoToken}
use Rattle.lexing.specs.Given.{AreGiven}
use Rattle.lexing.specs.Places.{IsPlaced}
use Rattle.lexer_handles.specs.declared.tokens.TokenParts.{TokenParts}

-- the token that crosses, or that there is none
abbrev pub token_of : TokenParts → Result Token LexError
token_of parts =
    if parts.is_token
    then Ok (record { rule = parts.rule; start = parts.start; end = parts.end })
    else Err (NoToken parts.start)

-- the same with its line and column
abbrev pub placed_of : TokenParts → Placed
placed_of parts =
    record { token = token_of parts; place = record { line = parts.line; column = parts.column } }

-- these are the tokens that a lexer gives of the text, each with its place
pub record AreTokensOf (lexer : Lexer) (text : List ℕ) (all : List Placed) : Type 0 where
  pub given : AreGiven lexer text ⊥ 0 (map (λ placed. placed.token) all)
  pub placed : AllByRecursion (IsPlaced text) all

-- at the front of the array stand the tokens of the text, as many as it takes, and the count is that
-- of all
abbrev pub AreWritten : Lexer → List ℕ → List TokenParts → ℕ → Type 0
AreWritten lexer text tokens count = (all : List Placed) × AreTokensOf lexer text all
    × (count ≡ length all) × (map placed_of (take count tokens) ≡ take (length tokens) all)

-- the slot of this number, if there is one, has the token
abbrev pub IsPut : ℕ → TokenParts → List TokenParts → List TokenParts → Type 0
IsPut at parts before after = ((at < length before) × (after ≡ slice_set before at parts))
    ⊎ ((length before ≤ at) × (after ≡ before))
