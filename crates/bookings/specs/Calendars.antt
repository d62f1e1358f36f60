-- Which minutes are booked, and what is in the way of a booking.
use Rattle.std.specs.List.{AllByRecursion as Every}
use Rattle.std.specs.Prelude.{◌≡◌, ℕ, ◌+◌, ◌<◌, ◌≤◌, List, ◌∷◌, ◌++◌, Option, None, Some, String, ⊤}
use Rattle.std.specs.String.{string_eq}
use Rattle.std.specs.declared.alloc.Global.{Global}
use Rattle.std.specs.declared.ops.Range.{Range}
use Rattle.btree_range_map.specs.AnyRange.{AnyRange}
use Rattle.btree_range_map.specs.Bindings.{IsBoundAfter, IsUnboundAfter}
use Rattle.btree_range_map.specs.Item.{Item}
use Rattle.btree_range_map.specs.Lookups.{BindsKeyOf}
use Rattle.btree_range_map.specs.Names.{range_from_to, u32_order}
use Rattle.btree_range_map.specs.Relations.{ShareKey}
use Rattle.bookings.specs.declared.calendar.NotBooked.{NotBooked}
use Rattle.bookings.specs.declared.calendar.NotBooked.TheVariants.{Taken, Memory}

-- a range that is booked, with the name of who booked it
abbrev pub Booking : Type 0
Booking = Item (AnyRange ℕ) (String Global)

abbrev pub Bookings : Type 0
Bookings = List Booking

-- the minutes of a range, of which the last is not meant
abbrev pub minutes_of : Range ℕ → AnyRange ℕ
minutes_of range = range_from_to range.start range.end

-- none of the minutes is booked
abbrev pub AreFree : Bookings → AnyRange ℕ → Type 0
AreFree bookings minutes = ¬ BindsKeyOf u32_order bookings minutes

-- the minutes are booked under the name, and all others as before
abbrev pub AreBooked : Bookings → Bookings → AnyRange ℕ → String Global → Type 0
AreBooked before after minutes name =
    IsBoundAfter u32_order string_eq before after minutes name

-- none of the minutes is booked, and all others are as before
abbrev pub AreCancelled : Bookings → Bookings → AnyRange ℕ → Type 0
AreCancelled before after minutes = IsUnboundAfter u32_order string_eq before after minutes

-- the booking has some of the minutes
abbrev pub HasSomeOf : AnyRange ℕ → Booking → Type 0
HasSomeOf minutes booking = ShareKey u32_order booking.key minutes

-- all bookings that have some of the minutes, in their order: those before and after have none
abbrev pub AreInTheWay : Bookings → AnyRange ℕ → Bookings → Type 0
AreInTheWay bookings minutes met = (before : Bookings) × (after : Bookings)
    × (bookings ≡ before ++ (met ++ after)) × Every (HasSomeOf minutes) met
    × Every (λ booking. ¬ HasSomeOf minutes booking) (before ++ after)

-- why minutes are not booked: this range is the first in their way, or there is no memory
abbrev pub IsReason : Bookings → AnyRange ℕ → NotBooked → Type 0
IsReason bookings minutes (Taken booked) = (name : String Global) × (others : Bookings)
    × AreInTheWay bookings minutes (record { key = booked; value = name } ∷ others)
IsReason bookings minutes Memory = ⊤

-- so many minutes from a start on are free, and lie within others
abbrev pub IsRoom : Bookings → Range ℕ → ℕ → ℕ → Type 0
IsRoom bookings within length start =
    (within.start ≤ start) × (start + length ≤ within.end)
    × AreFree bookings (range_from_to start (start + length))

-- so many minutes from a start on are free in both calendars, and lie within others
abbrev pub IsCommonRoom : Bookings → Bookings → Range ℕ → ℕ → ℕ → Type 0
IsCommonRoom bookings others within length start =
    IsRoom bookings within length start × IsRoom others within length start

-- the least number for which P holds, or none where it holds for none
abbrev pub IsFirst : (ℕ → Type 0) → Option ℕ → Type 0
IsFirst P None = (number : ℕ) → ¬ P number
IsFirst P (Some first) = P first × ((number : ℕ) → number < first → ¬ P number)
