use Rattle.std.proofs.Common.{◌≤◌, ◌<◌, ◌+◌, ◌-◌, ℕ}
use Rattle.bookings.specs.Calendars.{IsRoom}
use Rattle.bookings.proofs.calendar.Calendar.free.Given as goal

abbrev pub invariant-loop-start : goal.invariant-loop-start
invariant-loop-start l =
    record {
      inside : l.within.start ≤ l.start;
      none : (earlier : ℕ) → earlier < l.start → ¬ IsRoom l.self l.within l.length earlier;
    }

abbrev pub decreases-loop-start : goal.decreases-loop-start
decreases-loop-start l = l.within.end + 1 - l.start
