use Rattle.std.proofs.Common.{arith}
use Rattle.std.proofs.lemmas.Str.{IsUtf8-drop, IsCharBoundary-past_char, drop_past_char, chars_past_char}
use Rattle.lexing.proofs.tokens.character_at.Goals as goal

pub returns-clause-one : goal.returns-clause-one
returns-clause-one c = grind (arith, IsUtf8-drop, chars_past_char, drop_past_char)

pub returns-clause-boundary : goal.returns-clause-boundary
returns-clause-boundary c =
    grind (
      arith,
      IsUtf8-drop c.args.text.now c.args.at c.utf8.text c.requires.boundary,
      IsCharBoundary-past_char c.args.text.now c.next.new.self.rest.now c.args.at c.in-Some.c c.requires.boundary.0,
    )
