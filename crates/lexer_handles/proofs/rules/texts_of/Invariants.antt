use Rattle.std.proofs.Common.{◌≡◌, length, take}
use Rattle.lexer_handles.specs.Rules.{AreRead}
use Rattle.lexer_handles.proofs.rules.texts_of.Given as goal

abbrev pub invariant-loop-at : goal.invariant-loop-at
invariant-loop-at l = record {
  read : AreRead (take l.at l.rules) l.found.items;
  counted : length l.found.items ≡ l.at;
}
