use Rattle.std.proofs.Common.{◌≤◌, ◌-◌, length}
use Rattle.std.specs.Str.{IsCharBoundary}
use Rattle.lexing.specs.Runs.{AreSkipped}
use Rattle.lexing.proofs.tokens.next_from.Given as goal

-- what lies between the start and the place is skipped
abbrev pub invariant-loop-at : goal.invariant-loop-at
invariant-loop-at g l = record {
  boundary : IsCharBoundary l.text l.at;
  further : l.start ≤ l.at;
  skipped : AreSkipped (g.S.Scanner.lexer l.scanner) l.text l.start l.at;
}

abbrev pub decreases-loop-at : goal.decreases-loop-at
decreases-loop-at g l = length l.text - l.at
