use Rattle.std.proofs.Common.{◌≡◌, take}
use Rattle.tokens.specs.Escaping.{escaped}
use Rattle.tokens.proofs.escaping.are_plain.Given as goal

abbrev pub invariant-loop-at : goal.invariant-loop-at
invariant-loop-at l = escaped (take l.at l.text) ≡ take l.at l.text
