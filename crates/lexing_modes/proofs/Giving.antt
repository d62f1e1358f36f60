-- What the calls of `next` give, one after the other.
use Rattle.std.proofs.Common.{◌≡◌, sym, subst, ℕ, List, [], ◌∷◌, Some, None, Ok, Err}
use Rattle.std.specs.Prelude.{Result}
use Rattle.std.specs.Iterator.{YieldsThen}
use Rattle.std.specs.List.{AllByRecursion}
use Rattle.lexing.specs.declared.lexer.Lexer.{Lexer}
use Rattle.lexing_modes.specs.declared.error.TokenError.{TokenError}
use Rattle.lexing_modes.specs.declared.modes.Modes.{Modes}
use Rattle.lexing_modes.specs.declared.token.ModeToken.{ModeToken}
use Rattle.lexing_modes.specs.declared.tokens.ModeTokens.{ModeTokens}
use Rattle.lexing_modes.specs.Given.{AreGiven, AreLeftOut, At_end, Given_error, Given_token, IsLeftOut, IsNext, Skipped_token}
use Rattle.lexing_modes.specs.Left.{GivesNext, modes_of, state_at, text_of}
use Rattle.lexing_modes.specs.Runs.{AreTokens}
use Rattle.lexing_modes.specs.States.{State}

module _ {S : Type 0} (lexer : S → Lexer) (modes : Modes S) (text : List ℕ)
    (may_refuse : S → Type 0) where
  abbrev Given : State → List (Result ModeToken TokenError) → Type 0
  Given = AreGiven lexer modes text may_refuse

  -- behind skipped tokens stands what is given behind them
  past_skipped : (tokens : List ModeToken) (at after : State)
      (items : List (Result ModeToken TokenError))
      → AreTokens lexer modes text at tokens after
      → AllByRecursion (IsLeftOut lexer modes) tokens → Given after items → Given at items
  past_skipped [] at after items same all given = subst (λ state. Given state items) (sym same) given
  past_skipped (found ∷ tokens) at after items (next, takes, later) all given =
      Skipped_token at next found items takes all.0
      (past_skipped tokens next after items later all.1 given)

  behind_skipped : (at after : State) (items : List (Result ModeToken TokenError))
      → AreLeftOut lexer modes text may_refuse at after → Given after items → Given at items
  behind_skipped at after items (tokens, are, all) given =
      past_skipped tokens at after items are all given

  -- one call more
  given_more : (at after : State) (item : Result ModeToken TokenError)
      (items : List (Result ModeToken TokenError))
      → IsNext lexer modes text may_refuse at (Some item) after → Given after items
      → Given at (item ∷ items)
  given_more at after (Ok found) items (mid, skipped, takes, kept) given =
      behind_skipped at mid (Ok found ∷ items) skipped
      (Given_token mid after found items takes kept given)
  given_more at after (Err error) items (mid, skipped, fails) given =
      behind_skipped at mid (Err error ∷ items) skipped
      (Given_error mid after error items fails given)

given_along : {S : Type 0} (lexer : S → Lexer) (may_refuse : S → Type 0) (modes other : Modes S)
    (text same : List ℕ) (at : State) (items : List (Result ModeToken TokenError))
    → other ≡ modes → same ≡ text → AreGiven lexer other same may_refuse at items
    → AreGiven lexer modes text may_refuse at items
given_along lexer may_refuse modes other text same at items one two given = rw (one, two) at given

-- what all calls give
pub given_by_calls : {S : Type 0} (lexer : S → Lexer) (may_refuse : S → Type 0)
    (items : List (Result ModeToken TokenError)) (left last : ModeTokens S)
    → YieldsThen (GivesNext lexer may_refuse) left items None last
    → AreGiven lexer (modes_of left) (text_of left) may_refuse (state_at left) items
given_by_calls lexer may_refuse [] left last (end, same, (modes, text, (skipped, behind))) =
    rw same
    (behind_skipped lexer (modes_of end) (text_of end) may_refuse (state_at end) (state_at last) []
    skipped (At_end (state_at last) behind))
given_by_calls lexer may_refuse (item ∷ items) left last (end, (next, step, calls), stop) =
    given_more lexer (modes_of left) (text_of left) may_refuse (state_at left) (state_at next) item
    items step.2
    (given_along lexer may_refuse (modes_of left) (modes_of next) (text_of left) (text_of next)
    (state_at next) items step.0 step.1
    (given_by_calls lexer may_refuse items next last (end, calls, stop)))
