-- All that the tokens of a text are, by the calls that give them.
use Rattle.std.specs.Prelude.{◌≡◌, ℕ, List, [], ◌∷◌, Option, Some, None, Result, Ok, Err, length}
use Rattle.std.specs.List.{AllByRecursion}
use Rattle.lexing.specs.declared.lexer.Lexer.{Lexer}
use Rattle.lexing.specs.Lexers.{IsSkipped}
use Rattle.lexing_modes.specs.declared.error.TokenError.{TokenError}
use Rattle.lexing_modes.specs.declared.modes.Modes.{Modes}
use Rattle.lexing_modes.specs.declared.token.ModeToken.{ModeToken}
use Rattle.lexing_modes.specs.Modes.{IsScannerOf}
use Rattle.lexing_modes.specs.Runs.{Takes, AreTokens, Fails}
use Rattle.lexing_modes.specs.States.{State}

module _ {S : Type 0} (lexer : S → Lexer) (modes : Modes S) where
  -- in its mode tokens of its rule are skipped
  abbrev pub IsLeftOut : ModeToken → Type 0
  IsLeftOut found = (scanner : S) × IsScannerOf modes found.mode scanner
      × IsSkipped (lexer scanner) found.token.rule

  module _ (text : List ℕ) (may_refuse : S → Type 0) where
    -- from the one state to the other stand tokens that are skipped
    abbrev pub AreLeftOut : State → State → Type 0
    AreLeftOut before after = (tokens : List ModeToken)
        × AreTokens lexer modes text before tokens after
        × AllByRecursion IsLeftOut tokens

    -- what comes next from the one state on, and the state after it: behind tokens that are skipped
    -- one that is not, an error, or the end
    abbrev pub IsNext : State → Option (Result ModeToken TokenError) → State → Type 0
    IsNext before None after = AreLeftOut before after × (after.place ≡ length text)
    IsNext before (Some (Ok found)) after = (at : State) × AreLeftOut before at
        × Takes lexer modes text at found after × (¬ IsLeftOut found)
    IsNext before (Some (Err error)) after = (at : State) × AreLeftOut before at
        × Fails lexer modes text may_refuse at error after

    -- from the state on the text is tokens, and pieces at which one is not taken, one after the
    -- other up to its end. These are given but for the tokens that are skipped
    pub data AreGiven : State → List (Result ModeToken TokenError) → Type 0 where
      At_end : (at : State) → at.place ≡ length text → AreGiven at []
      Skipped_token : (at next : State) (found : ModeToken)
          (items : List (Result ModeToken TokenError))
          → Takes lexer modes text at found next → IsLeftOut found
          → AreGiven next items → AreGiven at items
      Given_token : (at next : State) (found : ModeToken)
          (items : List (Result ModeToken TokenError))
          → Takes lexer modes text at found next → ¬ IsLeftOut found
          → AreGiven next items → AreGiven at (Ok found ∷ items)
      Given_error : (at next : State) (error : TokenError)
          (items : List (Result ModeToken TokenError))
          → Fails lexer modes text may_refuse at error next
          → AreGiven next items → AreGiven at (Err error ∷ items)
