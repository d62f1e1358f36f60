use Rattle.std.proofs.Common.{◌≡◌, take}
use Rattle.lexing_mode_patterns.specs.Rules.{patterns_of}
use Rattle.tokens.proofs.rules.patterns_of.Given as goal

abbrev pub invariant-loop-at : goal.invariant-loop-at
invariant-loop-at l = l.found.items ≡ patterns_of (take l.at l.rules)
