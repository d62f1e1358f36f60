use Rattle.std.proofs.Common.{arith, subst}
use Rattle.std.specs.String.{string_eq}
use Rattle.btree_range_map.specs.Names.{u32_order}
use Rattle.btree_range_map.specs.Stored.{IsStored}
use Rattle.bookings.proofs.Meeting.{are_in_the_way}
use Rattle.bookings.proofs.calendar.Calendar.bookings_in.Goals as goal

pub returns-clause-met : goal.returns-clause-met
returns-clause-met c =
    rw (← c.self.view_is)
    (are_in_the_way _ _ _
    (subst (IsStored u32_order string_eq) c.iter-bookings.ensures.items
    c.iter-bookings.ensures.canonical.stored)
    (omega arith, omega arith) c.overlapping.ensures.empty c.overlapping.ensures.items)
