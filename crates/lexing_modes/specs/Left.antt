-- What is left of a text that is cut into tokens by modes.
use Rattle.std.specs.Prelude.{◌≡◌, ℕ, List, Option, Result}
use Rattle.lexing.specs.declared.lexer.Lexer.{Lexer}
use Rattle.lexing_modes.specs.declared.error.TokenError.{TokenError}
use Rattle.lexing_modes.specs.declared.modes.Modes.{Modes}
use Rattle.lexing_modes.specs.declared.token.ModeToken.{ModeToken}
use Rattle.lexing_modes.specs.declared.tokens.ModeTokens.{ModeTokens}
use Rattle.lexing_modes.specs.Given.{IsNext}
use Rattle.lexing_modes.specs.States.{State, state_of}

module _ {S : Type 0} (tokens : ModeTokens S) where
  abbrev pub modes_of : Modes S
  modes_of = tokens.modes.now

  abbrev pub text_of : List ℕ
  text_of = tokens.text.now

  -- the place from which on the text is still to be cut, the mode there, and those below it
  abbrev pub state_at : State
  state_at = state_of tokens.cursor

-- one call of `next`
abbrev pub GivesNext : {S : Type 0} → (S → Lexer) → (S → Type 0) → ModeTokens S
    → Option (Result ModeToken TokenError) → ModeTokens S → Type 0
GivesNext lexer may_refuse before item after = (modes_of after ≡ modes_of before)
    × (text_of after ≡ text_of before)
    × IsNext lexer (modes_of before) (text_of before) may_refuse (state_at before) item
    (state_at after)
