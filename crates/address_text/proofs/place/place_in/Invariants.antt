use Rattle.std.proofs.Common.{◌≤◌, length}
use Rattle.address_text.proofs.Places.{AreCounted}
use Rattle.address_text.proofs.place.place_in.Given as goal

abbrev pub invariant-lines : goal.invariant-lines
invariant-lines l = (1 ≤ l.number) × AreCounted l.text l.rest l.number

abbrev pub decreases-lines : goal.decreases-lines
decreases-lines l = length l.rest
