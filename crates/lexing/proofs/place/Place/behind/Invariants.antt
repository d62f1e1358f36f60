use Rattle.std.proofs.Common.{◌≡◌, ◌+◌, ◌<◌, ◌^◌, length, take}
use Rattle.lexing.specs.Places.{place_after}
use Rattle.lexing.proofs.place.Place.behind.Given as goal

abbrev pub invariant-loop-at : goal.invariant-loop-at
invariant-loop-at l = l.fn.self.line + length l.bytes < 2 ^ 64
    → l.fn.self.column + length l.bytes < 2 ^ 64
    → l.place ≡ place_after l.fn.self (take l.at l.bytes)
