use Rattle.std.proofs.Common.{length}
use Rattle.std.specs.Prelude.{⊤}
use Rattle.bookings.proofs.reply.who.Given as goal

abbrev pub invariant-loop-booked : goal.invariant-loop-booked
invariant-loop-booked g l = ⊤

abbrev pub decreases-loop-booked : goal.decreases-loop-booked
decreases-loop-booked g l = length l.bookings
