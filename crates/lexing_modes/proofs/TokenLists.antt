-- Tokens of a text by modes, one after the other.
use Rattle.std.proofs.Common.{refl, ℕ, ◌≤◌, List, [], ◌∷◌, ◌++◌, length}
use Rattle.std.specs.List.{AllByRecursion}
use Rattle.std.specs.Str.{IsCharBoundary}
use Rattle.std.proofs.lemmas.Str.{IsCharBoundary-from_rest}
use Rattle.lexing.specs.declared.lexer.Lexer.{Lexer}
use Rattle.lexing.specs.declared.token.Token.{Token}
use Rattle.lexing_modes.specs.declared.error.TokenError.{TokenError}
use Rattle.lexing_modes.specs.declared.error.TokenError.TheVariants.{NoToken, NothingPushed, Memory}
use Rattle.lexing_modes.specs.declared.modes.Modes.{Modes}
use Rattle.lexing_modes.specs.declared.token.ModeToken.{ModeToken}
use Rattle.lexing_modes.specs.Given.{AreLeftOut, IsLeftOut}
use Rattle.lexing_modes.specs.Runs.{AreTokens, Fails, IsReason, IsTokenOf, Takes}
use Rattle.lexing_modes.specs.States.{State, first_state}

module _ {S : Type 0} (lexer : S → Lexer) (modes : Modes S) (text : List ℕ) where
  pub tokens_more : (start : State) (tokens : List ModeToken) (at : State) (found : ModeToken)
      (next : State) → AreTokens lexer modes text start tokens at
      → Takes lexer modes text at found next
      → AreTokens lexer modes text start (tokens ++ found ∷ []) next
  tokens_more start [] at found next same takes = (next, rw same takes, refl)
  tokens_more start (t ∷ ts) at found next (mid, first, later) takes =
      (mid, first, tokens_more mid ts at found next later takes)

  all_more : (tokens : List ModeToken) (found : ModeToken)
      → AllByRecursion (IsLeftOut lexer modes) tokens → IsLeftOut lexer modes found
      → AllByRecursion (IsLeftOut lexer modes) (tokens ++ found ∷ [])
  all_more [] found all is = (is, tt)
  all_more (t ∷ ts) found all is = (all.0, all_more ts found all.1 is)

  module _ (may_refuse : S → Type 0) where
    pub left_out_more : (start at : State) (found : ModeToken) (next : State)
        → AreLeftOut lexer modes text may_refuse start at → Takes lexer modes text at found next
        → IsLeftOut lexer modes found → AreLeftOut lexer modes text may_refuse start next
    left_out_more start at found next (tokens, are, all) takes is = (
      tokens ++ found ∷ [],
      tokens_more start tokens at found next are takes,
      all_more tokens found all is,
    )

    -- why a text is not cut, of which so much is
    pub reason_of : (tokens : List ModeToken) (at : State) (error : TokenError) (after : State)
        → AreTokens lexer modes text first_state tokens at
        → Fails lexer modes text may_refuse at error after
        → IsReason lexer modes text may_refuse error
    reason_of tokens at Memory after are fails = tt
    reason_of tokens at (NoToken mode place) after are fails = (tokens, at, after, are, fails)
    reason_of tokens at (NothingPushed mode place) after are fails =
        (tokens, at, after, are, fails)

  pub token_boundary : (mode at : ℕ) (token : Token) → at ≤ length text
      → IsTokenOf lexer modes text mode at token → IsCharBoundary text token.end
  token_boundary mode at token within (scanner, of, (n, is, start, end)) =
      rw end (IsCharBoundary-from_rest text at n within is.accepted.0)
