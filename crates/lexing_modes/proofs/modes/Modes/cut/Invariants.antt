use Rattle.std.proofs.Common.{◌-◌, length}
use Rattle.lexing_modes.specs.Modes.{mode_count}
use Rattle.lexing_modes.specs.Runs.{AreTokens}
use Rattle.lexing_modes.specs.States.{IsStateOf, first_state, state_of}
use Rattle.lexing_modes.proofs.modes.Modes.cut.Given as goal

-- what lies before the cursor is cut into the tokens
abbrev pub invariant-loop-cursor : goal.invariant-loop-cursor
invariant-loop-cursor g l = record {
  state : IsStateOf (mode_count l.self) l.text (state_of l.cursor);
  tokens : AreTokens g.S.Scanner.lexer l.self l.text first_state l.tokens.items
      (state_of l.cursor);
}

abbrev pub decreases-loop-cursor : goal.decreases-loop-cursor
decreases-loop-cursor g l = length l.text - l.cursor.place
