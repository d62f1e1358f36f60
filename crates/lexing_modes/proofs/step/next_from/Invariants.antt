use Rattle.std.proofs.Common.{◌≤◌, ◌-◌, length}
use Rattle.lexing_modes.specs.Given.{AreLeftOut}
use Rattle.lexing_modes.specs.Modes.{mode_count}
use Rattle.lexing_modes.specs.States.{IsStateOf, state_of}
use Rattle.lexing_modes.proofs.step.next_from.Given as goal

-- what lies between the start and the cursor is skipped
abbrev pub invariant-loop-cursor : goal.invariant-loop-cursor
invariant-loop-cursor g l = record {
  state : IsStateOf (mode_count l.modes) l.text (state_of l.cursor);
  further : l.initial.cursor.place ≤ l.cursor.place;
  skipped : AreLeftOut g.S.Scanner.lexer l.modes l.text g.S.Scanner.may_refuse
      (state_of l.initial.cursor) (state_of l.cursor);
}

abbrev pub decreases-loop-cursor : goal.decreases-loop-cursor
decreases-loop-cursor g l = length l.text - l.cursor.place
