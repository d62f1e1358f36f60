use Rattle.std.proofs.Common.{◌≡◌, take}
use Rattle.lexing_mode_patterns.specs.Rules.{rules_in}
use Rattle.lexing_mode_patterns.proofs.rules.rules_in.Given as goal

abbrev pub invariant-loop-at : goal.invariant-loop-at
invariant-loop-at l = l.found.items ≡ rules_in (take l.at l.rules) l.mode
