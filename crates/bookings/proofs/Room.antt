-- Where there is room among the bookings of a calendar, or of two.
use Rattle.std.proofs.Common.{arith, sym, ◌≡◌, ◌⊎◌, ◌≤◌, ◌<◌, ◌+◌, inl, inr, ℕ, [], ◌∷◌, subst}
use Rattle.std.specs.Prelude.{Option, None, Some}
use Rattle.std.proofs.lemmas.Bool.{cases_lt}
use Rattle.std.specs.String.{string_eq}
use Rattle.std.specs.declared.ops.Bound.TheVariants.{Included, Excluded}
use Rattle.std.specs.declared.ops.Range.{Range}
use Rattle.btree_range_map.specs.AnyRange.{AnyRange}
use Rattle.btree_range_map.specs.Bindings.{IsBound}
use Rattle.btree_range_map.specs.Intervals.{Any}
use Rattle.btree_range_map.specs.Names.{range_from_to, u32_order}
use Rattle.btree_range_map.specs.Overlays.{IsOverlaid}
use Rattle.btree_range_map.specs.Range.{EndHolds, Holds}
use Rattle.bookings.specs.Calendars.{AreFree, Booking, Bookings, IsCommonRoom, IsFirst, IsRoom}
use Rattle.bookings.proofs.Minutes.{end_held, end_holds, first_of, start_held, start_holds}

is_booked : (bookings : Bookings) (booking : Booking) (m : ℕ) → Any (λ i. i ≡ booking) bookings
    → Holds u32_order booking.key m → IsBound u32_order bookings m
is_booked [] booking m among holds = absurd among
is_booked (i ∷ rest) booking m (inl here) holds =
    inl (subst (λ (b : Booking). Holds u32_order b.key m) (sym here) holds)
is_booked (i ∷ rest) booking m (inr later) holds = inr (is_booked rest booking m later holds)

-- a minute that is booked leaves no room round it
no_room_at : (bookings : Bookings) (within : Range ℕ) (size start m : ℕ)
    → m ≤ 4294967295 → IsBound u32_order bookings m → start ≤ m → m < start + size
    → ¬ IsRoom bookings within size start
no_room_at bookings within size start m key bound low high (inside, ends, free) =
    free (
      m,
      key,
      (start_holds (Included start) m low, end_holds (Excluded (start + size)) m high),
      bound,
    )

-- a booking that has one of so many minutes leaves no room for as many from a later start on,
-- unless that start lies past it
module _ (bookings : Bookings) (within : Range ℕ) (size first past : ℕ) (booking : Booking)
    (among : Any (λ i. i ≡ booking) bookings) (m : ℕ) (key : m ≤ 4294967295)
    (holds : Holds u32_order booking.key m)
    (wanted : Holds u32_order (range_from_to first (first + size)) m)
    (held : (n : ℕ) → n < past → EndHolds u32_order booking.key.end n) where
  no_room_from : (start : ℕ) → first ≤ start → start < past → start ≤ 4294967295
      → (m < start) ⊎ (start ≤ m) → ¬ IsRoom bookings within size start
  no_room_from start later before fits (inl earlier) =
      let low : first ≤ m = start_held (Included first) m wanted.0 in
      let high : m < first + size = end_held (Excluded (first + size)) m key wanted.1 in
      let from : first_of booking.key.start ≤ m = start_held booking.key.start m holds.0 in
      no_room_at bookings within size start start fits
      (is_booked bookings booking start among
      (start_holds booking.key.start start (omega (arith, from, earlier)), held start before))
      (omega arith) (omega (arith, low, high))
  no_room_from start later before fits (inr reached) =
      let high : m < first + size = end_held (Excluded (first + size)) m key wanted.1 in
      no_room_at bookings within size start m key (is_booked bookings booking m among holds) reached
      (omega (arith, high, later))

  pub in_the_way : past ≤ 4294967295 → (start : ℕ) → first ≤ start → start < past
      → ¬ IsRoom bookings within size start
  in_the_way fits start later before =
      no_room_from start later before (omega arith) (cases_lt m start)

-- where there is no room before a minute
module _ (bookings : Bookings) (within : Range ℕ) (size first : ℕ)
    (none : (start : ℕ) → start < first → ¬ IsRoom bookings within size start) where
  pub none_before : (past : ℕ)
      → ((start : ℕ) → first ≤ start → start < past → ¬ IsRoom bookings within size start)
      → (start : ℕ) → start < past → ¬ IsRoom bookings within size start
  none_before past later start before = beside (cases_lt start first)
    where
      beside : (start < first) ⊎ (first ≤ start) → ¬ IsRoom bookings within size start
      beside (inl earlier) = none start earlier
      beside (inr reached) = later start reached before

  pub none_later : within.end < first + size → (start : ℕ) → ¬ IsRoom bookings within size start
  none_later short start = beside (cases_lt start first)
    where
      beside : (start < first) ⊎ (first ≤ start) → ¬ IsRoom bookings within size start
      beside (inl earlier) = none start earlier
      beside (inr reached) =
          λ room. let ends = room.1 in absurd (omega (arith, short, reached, ends))

-- what is free among the bookings of two calendars is free in both
module _ (bookings others both : Bookings)
    (overlaid : IsOverlaid u32_order string_eq bookings others both) where
  free_there : (minutes : AnyRange ℕ) → AreFree both minutes → AreFree others minutes
  free_there minutes free (k, key, holds, bound) =
      (overlaid.over k key bound None).0 (λ new. free (k, key, holds, new)) bound

  free_here : (minutes : AnyRange ℕ) → AreFree both minutes → AreFree bookings minutes
  free_here minutes free (k, key, holds, bound) =
      (overlaid.under k key (λ other. free_there minutes free (k, key, holds, other)) None).0
      (λ new. free (k, key, holds, new)) bound

  free_together : (minutes : AnyRange ℕ) → AreFree bookings minutes → AreFree others minutes
      → AreFree both minutes
  free_together minutes free free' (k, key, holds, bound) =
      (overlaid.under k key (λ other. free' (k, key, holds, other)) None).1
      (λ here. free (k, key, holds, here)) bound

  room_in_both : (within : Range ℕ) (size start : ℕ) → IsRoom both within size start
      → IsCommonRoom bookings others within size start
  room_in_both within size start (inside, ends, free) =
      let minutes = range_from_to start (start + size) in (
        (inside, ends, free_here minutes free),
        (inside, ends, free_there minutes free),
      )

  room_together : (within : Range ℕ) (size start : ℕ)
      → IsCommonRoom bookings others within size start → IsRoom both within size start
  room_together within size start ((inside, ends, free), (inside', ends', free')) =
      (inside, ends, free_together (range_from_to start (start + size)) free free')

  pub first_in_both : (within : Range ℕ) (size : ℕ) (found : Option ℕ)
      → IsFirst (IsRoom both within size) found
      → IsFirst (IsCommonRoom bookings others within size) found
  first_in_both within size None none =
      λ start room. none start (room_together within size start room)
  first_in_both within size (Some first) (room, none) = (
    room_in_both within size first room,
    λ start before room'. none start before (room_together within size start room'),
  )
