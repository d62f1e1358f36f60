-- What is taken of a text that comes in pieces, whatever follows the piece.
use Rattle.std.proofs.Common.{◌≡◌, ◌⊎◌, inl, inr, refl, sym, ap, subst, ◌∙◌, ℕ, ◌<◌, ◌≤◌, ◌+◌, Bool, true, false, List, [], ◌∷◌, ◌++◌, drop, length, arith}
use Rattle.std.specs.Char.{len_utf8}
use Rattle.std.specs.Str.{chars, IsCharBoundary, IsUtf8}
use Rattle.std.proofs.lemmas.Grind.{common_steps}
use Rattle.std.proofs.lemmas.List.{append-nil}
use Rattle.std.proofs.lemmas.Str.{chars-append, IsUtf8-drop}
use Rattle.lexing.specs.declared.lexer.Lexer.{Lexer}
use Rattle.lexing.specs.declared.machine.Machine.{Machine}
use Rattle.lexing.specs.declared.token.Token.{Token}
use Rattle.lexing.specs.MachineSteps.{lexer_of}
use Rattle.lexing.specs.Runs.{IsBehindOne}
use Rattle.lexing.specs.Settled.{LeadsNowhere}
use Rattle.lexing.specs.Tokens.{BeginsWithNone, IsToken}
use Rattle.lexing.proofs.Settled.{none_in_more, token_in_more}
use Rattle.lexing_modes.specs.declared.error.TokenError.{TokenError}
use Rattle.lexing_modes.specs.declared.error.TokenError.TheVariants.{NoToken, NothingPushed, Memory}
use Rattle.lexing_modes.specs.declared.modes.Modes.{Modes}
use Rattle.lexing_modes.specs.declared.token.ModeToken.{ModeToken}
use Rattle.lexing_modes.specs.Cutting.{FailsUpTo, at_place}
use Rattle.lexing_modes.specs.Modes.{IsScannerOf, change_after}
use Rattle.lexing_modes.specs.Runs.{Fails, IsStuckIn, IsTokenOf, Takes}
use Rattle.lexing_modes.specs.States.{HasSameModes, LeadsTo, State}
use Rattle.lexing_modes.proofs.ModeSteps.{same_scanner}

-- nothing follows the piece, or it leads nowhere
pub settled_by : (modes : Modes Machine) (piece more : List ℕ) (mode : ℕ) (machine : Machine)
    (is_last : Bool) → IsScannerOf modes mode machine → (is_last ≡ true → more ≡ [])
    → (is_last ≡ false → LeadsNowhere (lexer_of machine) piece)
    → (other : Machine) → IsScannerOf modes mode other
    → (more ≡ []) ⊎ LeadsNowhere (lexer_of other) piece
settled_by modes piece more mode machine true of none nowhere other is = inl (none refl)
settled_by modes piece more mode machine false of none nowhere other is =
    inr (rw (same_scanner modes.modes.items mode machine other of is) (nowhere refl))

module _ (modes : Modes Machine) (piece more : List ℕ) (utf8 : IsUtf8 piece) (mode : ℕ)
    (settled : (machine : Machine) → IsScannerOf modes mode machine
    → (more ≡ []) ⊎ LeadsNowhere (lexer_of machine) piece) where
  token_stays : (machine : Machine) → IsScannerOf modes mode machine → (rule n : ℕ)
      → IsToken (lexer_of machine) piece rule n → IsToken (lexer_of machine) (piece ++ more) rule n
  token_stays machine of rule n is = elim (settled machine of) [
    | inl none ↦
        subst (λ text. IsToken (lexer_of machine) text rule n)
        (sym (append-nil piece) ∙ ap (λ back. piece ++ back) (sym none)) is
    | inr nowhere ↦ token_in_more (lexer_of machine) piece more utf8 nowhere rule n is
  ]

  none_stays : (machine : Machine) → IsScannerOf modes mode machine
      → BeginsWithNone (lexer_of machine) piece → BeginsWithNone (lexer_of machine) (piece ++ more)
  none_stays machine of none = elim (settled machine of) [
    | inl nothing ↦
        subst (λ text. BeginsWithNone (lexer_of machine) text)
        (sym (append-nil piece) ∙ ap (λ back. piece ++ back) (sym nothing)) none
    | inr nowhere ↦ none_in_more (lexer_of machine) piece more utf8 nowhere none
  ]

  token_of_stays : (token : Token) → IsTokenOf lexer_of modes piece mode 0 token
      → IsTokenOf lexer_of modes (piece ++ more) mode 0 token
  token_of_stays token (machine, of, (n, is, start, end)) =
      (machine, of, (n, token_stays machine of token.rule n is, start, end))

  module _ (below : List ℕ) where
    -- the state before what is taken
    abbrev start : State
    start = record { place = 0; mode = mode; below = below }

    takes_stays : (found : ModeToken) (after : State)
        → Takes lexer_of modes piece start found after
        → Takes lexer_of modes (piece ++ more) start found (at_place found.token.end after)
    takes_stays found after takes = record {
      mode = takes.mode;
      token = token_of_stays found.token takes.token;
      behind = refl;
      change = subst
          (λ place. LeadsTo (change_after modes mode found.token.rule) start (at_place place after))
          takes.behind takes.change;
    }

    one_stays : (end : ℕ) → IsCharBoundary piece end → IsBehindOne piece 0 end
        → IsBehindOne (piece ++ more) 0 end
    one_stays end cut (c, one) =
        let rest = IsUtf8-drop piece end utf8 cut in
        let split : drop end (piece ++ more) ≡ drop end piece ++ more =
        grind (arith, common_steps, cut.0) in (
          c,
          chars-append piece more utf8 ∙ ap (λ text. text ++ chars more) one
              ∙ ap (λ text. c ∷ text) (sym (chars-append (drop end piece) more rest))
              ∙ ap (λ text. c ∷ chars text) (sym split),
        )

    stuck_stays : IsStuckIn lexer_of modes piece mode 0
        → IsStuckIn lexer_of modes (piece ++ more) mode 0
    stuck_stays (machine, of, (some, none)) =
        (machine, of, (grind (arith, common_steps, some), none_stays machine of none))

    fails_stays : (error : TokenError) (after : State) → IsCharBoundary piece after.place
        → Fails lexer_of modes piece (λ machine. ⊥) start error after
        → FailsUpTo lexer_of modes (piece ++ more) (λ machine. ⊥) start error
        (at_place after.place after)
    fails_stays (NoToken at place) after cut (same, here, stuck, one, kept) = (
      same,
      here,
      rw (same, here) (stuck_stays (rw (same, here) at stuck)),
      rw here (one_stays after.place cut (rw here at one)),
      kept,
    )
    fails_stays (NothingPushed at place) after cut (same, here, none, (token, is, pops, end), kept) = (
      same,
      here,
      none,
      (token, rw (same, here) (token_of_stays token (rw (same, here) at is)), pops, end),
      kept,
    )
    fails_stays Memory after cut (inl (machine, of, never), end) = absurd never
    fails_stays Memory after cut (inr (token, next, is, pushes), end) =
        inr (token, next, token_of_stays token is, pushes)

-- the cursor stands at the start of the piece
module _ (modes : Modes Machine) (piece more : List ℕ) (utf8 : IsUtf8 piece) (before : State)
    (here : before.place ≡ 0) (settled : (machine : Machine)
    → IsScannerOf modes before.mode machine
    → (more ≡ []) ⊎ LeadsNowhere (lexer_of machine) piece) where
  pub takes_from : (found : ModeToken) (after : State)
      → Takes lexer_of modes piece before found after
      → Takes lexer_of modes (piece ++ more) (at_place 0 before) found
      (at_place found.token.end after)
  takes_from found after takes =
      takes_stays modes piece more utf8 before.mode settled before.below found after
      (subst (λ place. Takes lexer_of modes piece (at_place place before) found after) here takes)

  pub fails_from : (error : TokenError) (after : State) → IsCharBoundary piece after.place
      → Fails lexer_of modes piece (λ machine. ⊥) before error after
      → FailsUpTo lexer_of modes (piece ++ more) (λ machine. ⊥) (at_place 0 before) error
      (at_place after.place after)
  fails_from error after cut fails =
      fails_stays modes piece more utf8 before.mode settled before.below error after cut
      (subst
      (λ place. Fails lexer_of modes piece (λ machine. ⊥) (at_place place before) error after)
      here fails)

  -- no token of the mode begins at the start of the piece
  pub stuck_from : (machine : Machine) (end : ℕ) → IsScannerOf modes before.mode machine
      → 0 < length piece → BeginsWithNone (lexer_of machine) piece → IsCharBoundary piece end
      → IsBehindOne piece 0 end → (after : State) → HasSameModes before after
      → FailsUpTo lexer_of modes (piece ++ more) (λ machine. ⊥) (at_place 0 before)
      (NoToken before.mode 0) (at_place end after)
  stuck_from machine end of some none cut one after kept =
      fails_stays modes piece more utf8 before.mode settled before.below (NoToken before.mode 0)
      (at_place end after) cut (refl, refl, (machine, of, (some, none)), one, kept)
