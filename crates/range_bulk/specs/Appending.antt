-- One stored list after another, and the last range of the one joined with the first of the other.
use Rattle.std.specs.Prelude.{◌≡◌, ◌-◌, ◌<◌, Bool, true, false, ◌&&◌, List, [], ◌∷◌, ◌++◌, length, slice_index_or, ⊤, if◌then◌else◌}
use Rattle.range_bulk.specs.Common.{KeyOrder, start_position, starts_at_end, Every, LiesBefore, AnyRange, Item}
use Rattle.range_bulk.specs.declared.append.NotAppended.{NotAppended}
use Rattle.range_bulk.specs.declared.append.NotAppended.TheVariants.{OutOfOrder, Memory}

-- refused since some range of the one does not lie before all of the other
abbrev pub IsOutOfOrder : NotAppended → Type 0
IsOutOfOrder OutOfOrder = ⊤
IsOutOfOrder Memory = ⊥

-- from the start of the one to the end of the other, with the value of the one
abbrev pub joined : {K V : Type 0} → Item (AnyRange K) V → Item (AnyRange K) V → Item (AnyRange K) V
joined i j = record { key = record { start = i.key.start; end = j.key.end }; value = i.value }

module _ {K : Type 0} (order : KeyOrder K) {V : Type 0} where
  -- each range of the one list lies before each of the other
  abbrev pub LieBefore : List (Item (AnyRange K) V) → List (Item (AnyRange K) V) → Type 0
  LieBefore items others = Every (λ i. Every (λ j. LiesBefore order i.key j.key) others) items

  module _ (same_value : V → V → Bool) where
    -- the one range touches the other, and their values are equal
    abbrev pub are_one : Item (AnyRange K) V → Item (AnyRange K) V → Bool
    are_one i j =
        starts_at_end order i.key.end (start_position order j.key.start)
        && same_value i.value j.value

    -- the list has a last item, which is one with this
    abbrev pub IsOneWithLast : List (Item (AnyRange K) V) → Item (AnyRange K) V → Type 0
    IsOneWithLast items j =
        (0 < length items)
        × ((d : Item (AnyRange K) V) → are_one (slice_index_or items (length items - 1) d) j ≡ true)

    -- the list is empty, or its last item is not one with this
    abbrev pub IsApartFromLast : List (Item (AnyRange K) V) → Item (AnyRange K) V → Type 0
    IsApartFromLast items j = (d : Item (AnyRange K) V) → 0 < length items
        → are_one (slice_index_or items (length items - 1) d) j ≡ false

    -- the two items, or one in their place where they are joined
    abbrev pub as_one : Item (AnyRange K) V → Item (AnyRange K) V → List (Item (AnyRange K) V)
    as_one i j = if are_one i j then joined i j ∷ [] else i ∷ j ∷ []

    -- the one list after the other, and the two items between which they meet as one where they
    -- are joined
    abbrev pub appended : List (Item (AnyRange K) V) → List (Item (AnyRange K) V)
        → List (Item (AnyRange K) V)
    appended [] others = others
    appended (i ∷ []) [] = i ∷ []
    appended (i ∷ []) (j ∷ others) = as_one i j ++ others
    appended (i ∷ k ∷ items) others = i ∷ appended (k ∷ items) others
