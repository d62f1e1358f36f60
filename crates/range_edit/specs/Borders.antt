-- How a range that is bound joins what stands beside it.
use Rattle.std.specs.Prelude.{◌≡◌, ◌+◌, ◌-◌, ◌<◌, ◌≤◌, ◌++◌}
use Rattle.range_edit.specs.Common.{ℕ, Bool, true, List, length, take, drop, slice_index_or, slice_set, Option, Some, None, MatchOption, ⊤, Bound, KeyOrder, IsBoundOfKey, unwrap_or, Border, Ends, SameBound, AnyRange, rank_or_len, IsAt, Item, Window, Touches}
use Rattle.std.specs.declared.ops.Bound.TheVariants.{Unbounded}
use Rattle.range_edit.specs.declared.borders.Border.TheVariants.{Plain, Cut, Joined}
use Rattle.range_edit.specs.declared.borders.Joins.{Joins}
use Rattle.range_runs.specs.Edits.{flipped_bound, with_start, with_end}
use Rattle.range_store.specs.declared.inner.cursor.Cursor.{Cursor}
use Rattle.range_edit.specs.declared.cut.DividedItem.{DividedItem}
use Rattle.range_edit.specs.Reach.{inner_count}
use Rattle.range_runs.specs.Window.{option_items}

module _ {K : Type 0} (order : KeyOrder K) {V : Type 0} (same : V → V → Bool) where
  -- no item just before the index touches the range with an equal value
  abbrev pub TouchesNoneBefore : List (Item (AnyRange K) V) → ℕ → AnyRange K → V → Type 0
  TouchesNoneBefore items index r v = (d : Item (AnyRange K) V) → 0 < index
      → Touches order (slice_index_or items (index - 1) d).key r
      → same (slice_index_or items (index - 1) d).value v ≡ true → ⊥

  -- the item just before the index does
  abbrev pub TouchesBefore : List (Item (AnyRange K) V) → ℕ → AnyRange K → V → Type 0
  TouchesBefore items index r v = (d : Item (AnyRange K) V)
      → Touches order (slice_index_or items (index - 1) d).key r
      × (same (slice_index_or items (index - 1) d).value v ≡ true)

  abbrev pub TouchesNoneAfter : List (Item (AnyRange K) V) → ℕ → AnyRange K → V → Type 0
  TouchesNoneAfter items index r v = (d : Item (AnyRange K) V) → index < length items
      → Touches order r (slice_index_or items index d).key
      → same v (slice_index_or items index d).value ≡ true → ⊥

  abbrev pub TouchesAfter : List (Item (AnyRange K) V) → ℕ → AnyRange K → V → Type 0
  TouchesAfter items index r v = (d : Item (AnyRange K) V)
      → Touches order r (slice_index_or items index d).key
      × (same v (slice_index_or items index d).value ≡ true)

-- the bounds that a run joins, and the list before the run and after it
pub record IsOpened {K V : Type 0} (items new : List (Item (AnyRange K) V))
    (bounds : Option (Bound K) × Option (Bound K)) (at from upto end : ℕ)
    (before after : Option (Item (AnyRange K) V)) (start finish : Option (Bound K)) : Type 0 where
  pub start_is : bounds.0 ≡ start
  pub end_is : bounds.1 ≡ finish
  pub front : take from new ≡ take at items ++ option_items before
  pub behind : drop upto new ≡ option_items after ++ drop end items

-- one side of a range: an item there with another bound towards the range, with another outer one, its
-- outer bound, and the index at which the range joins it
pub record BorderSide (K V : Type 0) : Type 0 where
  pub shortened : Item (AnyRange K) V → Bound K → Item (AnyRange K) V
  pub extended : Item (AnyRange K) V → Bound K → Item (AnyRange K) V
  pub outer : Item (AnyRange K) V → Bound K
  pub place : ℕ → ℕ

abbrev pub left_side : {K V : Type 0} → BorderSide K V
left_side =
    record {
      shortened = with_end;
      extended = with_start;
      outer = λ i. i.key.start;
      place = λ n. n;
    }

abbrev pub right_side : {K V : Type 0} → BorderSide K V
right_side =
    record {
      shortened = with_start;
      extended = with_end;
      outer = λ i. i.key.end;
      place = λ n. n + 1;
    }

module _ {K P : Type 0} where
  -- how many items a border adds to those that give way
  abbrev pub joined_count : Border K P → ℕ
  joined_count Plain = 0
  joined_count (Cut p b) = 0
  joined_count (Joined p) = 1

  -- an item that is cut at the bound, if there is one
  abbrev pub border_at : Option P → Bound K → Border K P
  border_at None b = Plain
  border_at (Some p) b = Cut p b

  -- what becomes of an item that joins, or else of one that reaches out and is cut at the bound
  abbrev pub seam_border : Option P → Option P → Bound K → Border K P
  seam_border None reaching b = border_at reaching b
  seam_border (Some q) reaching b = Joined q

  -- the same where the cut is just outside the bound of a range
  pub record IsSeamAt (order : KeyOrder K) (joined reaching : Option P) (bound : Bound K)
      (border : Border K P) : Type 0 where
    pub cut : Bound K
    pub at : border ≡ seam_border joined reaching cut
    pub known : IsBoundOfKey order cut
    pub flipped : SameBound order (flipped_bound bound) cut

  abbrev pub IsGoodBorder : (P → Type 0) → Border K P → Type 0
  IsGoodBorder is_good Plain = ⊤
  IsGoodBorder is_good (Cut p b) = is_good p
  IsGoodBorder is_good (Joined p) = is_good p

  module _ {V : Type 0} where
    -- how a border changes the items, and the bound that it gives the range
    abbrev pub IsBorderEdit : BorderSide K V → (P → ℕ) → List (Item (AnyRange K) V)
        → List (Item (AnyRange K) V) → Border K P → Option (Bound K) → Type 0
    IsBorderEdit side rank items new Plain given = (new ≡ items) × (given ≡ None)
    IsBorderEdit side rank items new (Cut p b) given =
        ((d : Item (AnyRange K) V)
        → new ≡ slice_set items (rank p) (side.shortened (slice_index_or items (rank p) d) b))
        × (given ≡ None)
    IsBorderEdit side rank items new (Joined p) given = (d : Item (AnyRange K) V)
        → (new ≡ slice_set items (rank p)
        (side.extended (slice_index_or items (rank p) d) Unbounded))
        × (given ≡ Some (side.outer (slice_index_or items (rank p) d)))

    abbrev pub IsLeftEdited : (P → ℕ) → List (Item (AnyRange K) V) → List (Item (AnyRange K) V)
        → Border K P → Option (Bound K) → Type 0
    IsLeftEdited = IsBorderEdit left_side

    abbrev pub IsRightEdited : (P → ℕ) → List (Item (AnyRange K) V) → List (Item (AnyRange K) V)
        → Border K P → Option (Bound K) → Type 0
    IsRightEdited = IsBorderEdit right_side

    -- from one index to another lies what is cut, and a rest of it stays; or an item is joined
    -- there, and its outer bound given
    abbrev pub IsBorderShape : BorderSide K V → (P → Type 0) → (P → ℕ) → List (Item (AnyRange K) V)
        → Border K P → ℕ → ℕ → Option (Item (AnyRange K) V) → Option (Bound K) → Type 0
    IsBorderShape side is_good rank items Plain low high rest given =
        (high ≡ low) × (rest ≡ None) × (given ≡ None)
    IsBorderShape side is_good rank items (Cut p b) low high rest given =
        is_good p × (rank p ≡ low) × (high ≡ low + 1) × (given ≡ None)
        × ((x : Item (AnyRange K) V) × (x ≡ slice_index_or items low x)
        × (rest ≡ Some (side.shortened x b)))
    IsBorderShape side is_good rank items (Joined p) low high rest given =
        is_good p × (side.place (rank p) ≡ low) × (high ≡ low) × (rest ≡ None)
        × ((x : Item (AnyRange K) V) × (x ≡ slice_index_or items (rank p) x)
        × (given ≡ Some (side.outer x)))

    -- `at` items and a rest stand before the run, which begins at `from`
    abbrev pub IsLeftShape : (P → Type 0) → (P → ℕ) → List (Item (AnyRange K) V) → Border K P
        → ℕ → ℕ → Option (Item (AnyRange K) V) → Option (Bound K) → Type 0
    IsLeftShape = IsBorderShape left_side

    -- a rest and the items from `end` on stand after the run, which ends at `upto`
    abbrev pub IsRightShape : (P → Type 0) → (P → ℕ) → List (Item (AnyRange K) V) → Border K P
        → ℕ → ℕ → Option (Item (AnyRange K) V) → Option (Bound K) → Type 0
    IsRightShape = IsBorderShape right_side

    -- the items beside a run are edited as the borders say
    abbrev pub AreOpened : (P → Type 0) → (P → ℕ) → List (Item (AnyRange K) V)
        → List (Item (AnyRange K) V) → Border K P → Border K P → Option (Bound K) × Option (Bound K)
        → Type 0
    AreOpened is_good rank items new left right bounds =
        (at from upto end : ℕ) (before after : Option (Item (AnyRange K) V))
        (start finish : Option (Bound K)) → IsLeftShape is_good rank items left at from before start
        → IsRightShape is_good rank items right upto end after finish
        → from + joined_count left + joined_count right ≤ upto
        → IsOpened items new bounds at from upto end before after start finish

    -- `put` stands in the place of the run, between what the borders leave of the items beside it
    abbrev pub IsRunReplaced : (P → Type 0) → (P → ℕ) → List (Item (AnyRange K) V)
        → List (Item (AnyRange K) V) → Border K P → Border K P → Cursor P
        → (Option (Bound K) → Option (Bound K) → List (Item (AnyRange K) V)) → Type 0
    IsRunReplaced is_good rank items new left right run put =
        (at end : ℕ) (before after : Option (Item (AnyRange K) V)) (start finish : Option (Bound K))
        → let from =
        rank_or_len rank (length items) run.at in IsLeftShape is_good rank items left at
        from before start → IsRightShape is_good rank items right (from + run.left) end after finish
        → joined_count left + joined_count right ≤ run.left
        → new ≡ take at items ++ option_items before ++ put start finish ++ option_items after
        ++ drop end items

-- an item in two parts, with `middle` between them
abbrev pub IsDivided : {K V : Type 0} → List (Item (AnyRange K) V) → List (Item (AnyRange K) V) → ℕ
    → DividedItem K V → Option (Item (AnyRange K) V) → Type 0
IsDivided {K} {V} items new index parts middle = (d : Item (AnyRange K) V) → let item =
    slice_index_or items index d in new ≡ take index items
    ++ option_items (Some (with_end item parts.end)) ++ option_items middle
    ++ option_items
    (Some (record {
      key = record { start = parts.start; end = item.key.end };
      value = parts.value;
    })) ++ drop (index + 1) items

-- an item with the bounds of those that it joins
abbrev pub joined_item : {K V : Type 0} → Item (AnyRange K) V → Option (Bound K) → Option (Bound K)
    → Item (AnyRange K) V
joined_item i start finish =
    record {
      key = record { start = unwrap_or start i.key.start; end = unwrap_or finish i.key.end };
      value = i.value;
    }

module _ {K : Type 0} (order : KeyOrder K) {V : Type 0} (same : V → V → Bool) {P : Type 0}
    {S : Type 0} (is_good : S → P → Type 0) (rank : S → P → ℕ)
    (items : S → List (Item (AnyRange K) V)) (stored : S) (r : AnyRange K) (v : V)
    (w : Window P) where
  -- the item just before the window, if the range touches it and has an equal value
  abbrev pub IsJoinedBefore : Option P → Type 0
  IsJoinedBefore found = let index =
      rank_or_len (rank stored) (length (items stored)) w.from in MatchOption found
      (TouchesNoneBefore order same (items stored) index r v)
      (λ q. is_good stored q × (rank stored q + 1 ≡ index)
      × TouchesBefore order same (items stored) index r v)

  -- the item just after it, if the range touches it and has an equal value
  abbrev pub IsJoinedAfter : Option P → Type 0
  IsJoinedAfter found = let end =
      rank_or_len (rank stored) (length (items stored)) w.from + w.count in MatchOption found
      (TouchesNoneAfter order same (items stored) end r v)
      (λ q. is_good stored q × (rank stored q ≡ end)
      × TouchesAfter order same (items stored) end r v)

module _ {P : Type 0} where
  -- how many items are replaced
  abbrev pub run_length : Ends P → Joins P → ℕ
  run_length ends joins =
      length (option_items joins.before) + inner_count ends + length (option_items joins.after)

  -- they begin with the item that joins, or else after the one that reaches out
  abbrev pub IsRunStart : (P → Type 0) → (P → ℕ) → ℕ → ℕ → Option P → Option P → Option P → Type 0
  IsRunStart is_good rank len index first None at =
      IsAt is_good rank len at (index + length (option_items first))
  IsRunStart is_good rank len index first (Some q) at = at ≡ Some q
