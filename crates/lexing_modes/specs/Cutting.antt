-- What is taken of a text that comes in pieces.
use Rattle.std.specs.Prelude.{ℕ, List, Option, Some, None}
use Rattle.lexing.specs.declared.lexer.Lexer.{Lexer}
use Rattle.lexing_modes.specs.declared.cutter.Cutter.{Cutter}
use Rattle.lexing_modes.specs.declared.cutter.Taken.{Taken}
use Rattle.lexing_modes.specs.declared.cutter.Taken.TheVariants.{Given, Skipped, Failed, Open}
use Rattle.lexing.specs.declared.machine.Machine.{Machine}
use Rattle.lexing_modes.specs.declared.error.TokenError.{TokenError}
use Rattle.lexing_modes.specs.declared.error.TokenError.TheVariants.{Memory}
use Rattle.lexing_modes.specs.declared.modes.Modes.{Modes}
use Rattle.lexing_modes.specs.Given.{IsLeftOut}
use Rattle.lexing_modes.specs.Runs.{Fails, MayRefuse, Takes}
use Rattle.lexing_modes.specs.States.{HasSameModes, State, state_of}

abbrev pub cutter_modes : Cutter → Modes Machine
cutter_modes cutter = cutter.modes.now

-- the mode, and those below it, at the start of what is left of the text
abbrev pub cutter_state : Cutter → State
cutter_state cutter = state_of cutter.cursor

-- how many bytes are taken, if anything is
abbrev pub end_of : Taken → Option ℕ
end_of (Given found) = Some found.token.end
end_of (Skipped found) = Some found.token.end
end_of (Failed error end) = Some end
end_of Open = None

-- the modes of the state, at this place
abbrev pub at_place : ℕ → State → State
at_place place state = record { place = place; mode = state.mode; below = state.below }

module _ {S : Type 0} (lexer : S → Lexer) (modes : Modes S) (text : List ℕ)
    (may_refuse : S → Type 0) where
  -- why no token is taken here, and the state after it, but where an allocation failed
  abbrev pub FailsUpTo : State → TokenError → State → Type 0
  FailsUpTo before Memory after = MayRefuse lexer modes text may_refuse before
  FailsUpTo before error after = Fails lexer modes text may_refuse before error after

  -- what is taken of the text, from the one state to the other, which is that at its end
  abbrev pub IsTaken : State → Taken → State → Type 0
  IsTaken before (Given found) after =
      Takes lexer modes text before found (at_place found.token.end after)
      × (¬ IsLeftOut lexer modes found)
  IsTaken before (Skipped found) after =
      Takes lexer modes text before found (at_place found.token.end after)
      × IsLeftOut lexer modes found
  IsTaken before (Failed error end) after = FailsUpTo before error (at_place end after)
  IsTaken before Open after = HasSameModes before after
