use Rattle.std.proofs.Common.{◌≡◌, length}
use Rattle.tokens.specs.Heads.{texts_of}
use Rattle.tokens.specs.Rules.{AreNumbered, AreRulesUpTo}
use Rattle.tokens.proofs.lines.rules_in.Given as goal

abbrev pub invariant-loop-at : goal.invariant-loop-at
invariant-loop-at l = record {
  read : AreRulesUpTo (texts_of l.heads.names.items) (texts_of l.lines) l.at l.rules.items;
  count : length l.numbers.items ≡ length l.rules.items;
  numbers : AreNumbered (texts_of l.heads.names.items) (texts_of l.lines) l.numbers.items
      l.rules.items;
}
