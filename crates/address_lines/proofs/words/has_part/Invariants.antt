use Rattle.std.proofs.Common.{◌↔◌, length}
use Rattle.address_lines.specs.Words.{HasPart}
use Rattle.address_lines.proofs.words.has_part.Given as goal

abbrev pub invariant-parts : goal.invariant-parts
invariant-parts l = HasPart l.list l.word ↔ HasPart l.list l.rest

abbrev pub decreases-parts : goal.decreases-parts
decreases-parts l = length l.rest
