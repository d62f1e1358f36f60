-- The bookings that meet some minutes are all that have some of them.
use Rattle.std.proofs.Common.{◌≡◌, ◌⊎◌, inl, inr, ℕ, List, [], ◌∷◌, ◌++◌, refl, sym, subst}
use Rattle.std.specs.List.{AllByRecursion as Every}
use Rattle.std.specs.String.{string_eq}
use Rattle.std.specs.declared.cmp.Ordering.{Ordering}
use Rattle.std.specs.declared.cmp.Ordering.TheVariants.{Less, Equal, Greater}
use Rattle.btree_range_map.specs.AnyRange.{AnyRange}
use Rattle.btree_range_map.specs.Intervals.{Any}
use Rattle.btree_range_map.specs.Lookups.{Overlap}
use Rattle.btree_range_map.specs.Names.{u32_order}
use Rattle.btree_range_map.specs.Overlapping.{AreOverlapping}
use Rattle.btree_range_map.specs.Position.{start_position, end_position, position_cmp}
use Rattle.btree_range_map.specs.Range.{IsEmptyRange, IsKeyRange}
use Rattle.btree_range_map.specs.Relations.{LiesBefore}
use Rattle.btree_range_map.specs.Stored.{IsStored}
use Rattle.bookings.specs.Calendars.{AreInTheWay, Booking, Bookings, HasSomeOf}
use Rattle.bookings.proofs.Minutes.{not_before, not_empty, share_minute}

module _ {X : Type 0} where
  is_among_later : (x : X) (xs ys : List X) → Any (λ y. y ≡ x) ys → Any (λ y. y ≡ x) (xs ++ ys)
  is_among_later x [] ys among = among
  is_among_later x (z ∷ xs) ys among = inr (is_among_later x xs ys among)

  is_among_earlier : (x : X) (xs ys : List X) → Any (λ y. y ≡ x) xs → Any (λ y. y ≡ x) (xs ++ ys)
  is_among_earlier x [] ys among = absurd among
  is_among_earlier x (z ∷ xs) ys (inl here) = inl here
  is_among_earlier x (z ∷ xs) ys (inr later) = inr (is_among_earlier x xs ys later)

  each_follows : (P Q : X → Type 0) (all xs : List X)
      → ((x : X) → Any (λ y. y ≡ x) xs → Any (λ y. y ≡ x) all)
      → ((x : X) → Any (λ y. y ≡ x) all → P x → Q x) → Every P xs → Every Q xs
  each_follows P Q all [] within follows each = tt
  each_follows P Q all (x ∷ xs) within follows (here, later) = (
    follows x (within x (inl refl)) here,
    each_follows P Q all xs (λ y among. within y (inr among)) follows later,
  )

  each_of_two : (P : X → Type 0) (xs ys : List X) → Every P xs → Every P ys → Every P (xs ++ ys)
  each_of_two P [] ys one other = other
  each_of_two P (x ∷ xs) ys one other = (one.0, each_of_two P xs ys one.1 other)

  each_as : (P Q : X → Type 0) (xs : List X) → ((x : X) → P x → Q x) → Every P xs → Every Q xs
  each_as P Q [] follows each = tt
  each_as P Q (x ∷ xs) follows each = (follows x each.0, each_as P Q xs follows each.1)

  each_is : (P : X → Type 0) (xs : List X) → ((x : X) → P x) → Every P xs
  each_is P [] all = tt
  each_is P (x ∷ xs) all = (all x, each_is P xs all)

  of_all : (P : X → Type 0) (x : X) (xs : List X) → Every P xs → Any (λ y. y ≡ x) xs → P x
  of_all P x [] all among = absurd among
  of_all P x (y ∷ xs) all (inl here) = subst P here all.0
  of_all P x (y ∷ xs) all (inr later) = of_all P x xs all.1 later

greater_or_not : (o : Ordering) → (o ≡ Greater) ⊎ (¬ (o ≡ Greater))
greater_or_not Less = inr (λ e. absurd cc)
greater_or_not Equal = inr (λ e. absurd cc)
greater_or_not Greater = inl refl

-- what meets the minutes has some of them, and all other bookings have none
pub are_in_the_way : (bookings met : Bookings) (minutes : AnyRange ℕ)
    → IsStored u32_order string_eq bookings → IsKeyRange u32_order minutes
    → (IsEmptyRange u32_order minutes → met ≡ [])
    → (¬ IsEmptyRange u32_order minutes → AreOverlapping u32_order bookings minutes met)
    → AreInTheWay bookings minutes met
are_in_the_way bookings met minutes stored known none some =
    elim (greater_or_not (position_cmp u32_order.cmp (start_position u32_order minutes.start)
    (end_position u32_order minutes.end))) [
      | inl empty ↦ (
        [],
        bookings,
        subst (λ (l : Bookings). bookings ≡ l ++ bookings) (sym (none empty)) refl,
        subst (Every (HasSomeOf minutes)) (sym (none empty)) tt,
        each_is (λ (b : Booking). ¬ HasSomeOf minutes b) bookings
            (λ b (m, key, holds, wanted). not_empty minutes.start minutes.end m key wanted empty),
      )
      | inr full ↦
          let are = some full in (
            are.before,
            are.after,
            are.split,
            each_follows (λ i. Overlap u32_order i.key minutes) (HasSomeOf minutes) bookings met
                (λ i among. subst (Any (λ j. j ≡ i)) (sym are.split)
                (is_among_later i are.before (met ++ are.after)
                (is_among_earlier i met are.after among)))
                (λ i among overlap. share_minute i.key minutes
                (of_all (λ j. IsKeyRange u32_order j.key) i bookings stored.known among) known
                (of_all (λ j. ¬ IsEmptyRange u32_order j.key) i bookings stored.nonempty among) full
                overlap)
                are.meet,
            each_of_two (λ (b : Booking). ¬ HasSomeOf minutes b) are.before are.after
                (each_as (λ (b : Booking). LiesBefore u32_order b.key minutes) _ are.before
                (λ b less (m, key, holds, wanted).
                not_before b.key.end minutes.start m key holds.1 wanted.0 less) are.below)
                (each_as (λ (b : Booking). LiesBefore u32_order minutes b.key) _ are.after
                (λ b less (m, key, holds, wanted).
                not_before minutes.end b.key.start m key wanted.1 holds.0 less) are.above),
          )
    ]

-- the first booking that has some of the minutes is one of the calendar
pub first_in_the_way : (bookings : Bookings) (minutes : AnyRange ℕ) (booking : Booking)
    (others : Bookings) → AreInTheWay bookings minutes (booking ∷ others)
    → Any (λ i. i ≡ booking) bookings × HasSomeOf minutes booking
first_in_the_way bookings minutes booking others (before, after, split, some, none) = (
  subst (Any (λ i. i ≡ booking)) (sym split)
      (is_among_later booking before ((booking ∷ others) ++ after) (inl refl)),
  some.0,
)
