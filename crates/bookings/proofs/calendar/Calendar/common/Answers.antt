use Rattle.bookings.proofs.Room.{first_in_both}
use Rattle.bookings.proofs.calendar.Calendar.common.Goals as goal

pub returns : goal.returns
returns c =
    rw (← c.self.view_is, ← c.other.view_is)
    (first_in_both _ _ _ c.in_ok-overlay.ensures.bound c.args.within.now c.args.length
    c.free.result c.free.ensures)
