use Rattle.std.proofs.Common.{◌-◌, length}
use Rattle.std.specs.Str.{IsCharBoundary}
use Rattle.lexing.specs.Runs.{AreTokens}
use Rattle.lexing.proofs.cutting.cut.Given as goal

-- what lies before the place is cut into the tokens
abbrev pub invariant-loop-at : goal.invariant-loop-at
invariant-loop-at g l = record {
  boundary : IsCharBoundary l.text l.at;
  tokens : AreTokens (g.S.Scanner.lexer l.scanner) l.text 0 l.tokens.items l.at;
}

abbrev pub decreases-loop-at : goal.decreases-loop-at
decreases-loop-at g l = length l.text - l.at
