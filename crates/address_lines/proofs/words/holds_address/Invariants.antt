use Rattle.std.proofs.Common.{◌↔◌, length}
use Rattle.address_lines.specs.Words.{HoldsAddress}
use Rattle.address_lines.proofs.words.holds_address.Given as goal

abbrev pub invariant-words : goal.invariant-words
invariant-words l = HoldsAddress l.list l.line ↔ HoldsAddress l.list l.rest

abbrev pub decreases-words : goal.decreases-words
decreases-words l = length l.rest
