use Rattle.std.proofs.Common.{subst}
use Rattle.bookings.specs.Calendars.{AreInTheWay, minutes_of}
use Rattle.bookings.proofs.calendar.Calendar.first_in.Goals as goal

pub returns-in-Some : goal.returns-in-Some
returns-in-Some c = (
  c.in-Some._name.now,
  _,
  subst (AreInTheWay c.args.self.now (minutes_of c.args.minutes.now)) c.in-Some.ensures.steps
      c.bookings_in.ensures.met,
)
