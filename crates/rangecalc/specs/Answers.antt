-- What the call of a command makes of the list of a map, and what it answers.
use Rattle.std.specs.Prelude.{◌≡◌, ◌↔◌, ℕ, ℤ, Option, Some, None, Bool, IsTrue, not, List, [], ◌∷◌, ◌++◌, length, map, codes}
use Rattle.std.specs.List.{filter}
use Rattle.std.specs.Ordering.{int_eq}
use Rattle.btree_range_map.specs.AnyRange.{AnyRange}
use Rattle.btree_range_map.specs.Bindings.{Binds, IsBound, IsBoundAfter, IsItemFor, IsUnboundAfter}
use Rattle.btree_range_map.specs.FreeRanges.{AreGaps}
use Rattle.btree_range_map.specs.Item.{Item}
use Rattle.btree_range_map.specs.Iteration.{pair_item}
use Rattle.btree_range_map.specs.Lookups.{MeetsSome}
use Rattle.btree_range_map.specs.MapExtending.{AreBoundAfter}
use Rattle.btree_range_map.specs.Numbers.{IsNumberOfKeys}
use Rattle.btree_range_map.specs.Order.{KeyOrder}
use Rattle.btree_range_map.specs.Overlapping.{AreOverlapping}
use Rattle.btree_range_map.specs.PieceLists.{AreGapsWithin}
use Rattle.btree_range_map.specs.Pieces.{ArePieces, IsFreePart}
use Rattle.btree_range_map.specs.Range.{IsEmptyRange}
use Rattle.rangecalc.specs.Ranges.{Ranges}
use Rattle.line_program.specs.Listing.{SpellsLines}
use Rattle.rangecalc.specs.Replies.{SpellsGap, SpellsItem, SpellsPiece}
use Rattle.rangecalc.specs.declared.answer.Reply.{Reply}
use Rattle.rangecalc.specs.declared.answer.Reply.TheVariants.{Done, Memory, Nothing, Value, Stored, Taken, Truth, Number}
use Rattle.rangecalc.specs.declared.line.Change.{Change}
use Rattle.rangecalc.specs.declared.line.Change.TheVariants.{Insert, Try, Remove, Drop, From, PopFirst, PopLast, Clear}
use Rattle.rangecalc.specs.declared.line.Listing.{Listing}
use Rattle.rangecalc.specs.declared.line.Listing.TheVariants.{Show, Gaps, Over, Free, Pieces}
use Rattle.rangecalc.specs.declared.line.Question.{Question}
use Rattle.rangecalc.specs.declared.line.Question.TheVariants.{Get, At, Has, Meets, All, First, Last, Count, Len, Levels}

-- the value of the range is another one
abbrev pub has_another : {K : Type 0} → ℤ → Item (AnyRange K) ℤ → Bool
has_another value item = not (int_eq item.value value)

module _ {K : Type 0} (order : KeyOrder K) where
  -- a stored range is in the way of a range that is not empty
  abbrev pub IsInTheWay : Ranges K → AnyRange K → Type 0
  IsInTheWay items range = (¬ IsEmptyRange order range) × MeetsSome order items range

  -- the reply has the first of the ranges that are in the way
  abbrev pub IsTaken : Reply K → Ranges K → AnyRange K → Type 0
  IsTaken reply items range =
      (first : Item (AnyRange K) ℤ) × (rest : Ranges K) × (¬ IsEmptyRange order range)
      × AreOverlapping order items range (first ∷ rest) × (reply ≡ Taken first.key)

  -- a range is bound where nothing is in its way, and otherwise the list stays
  abbrev pub IsTried : AnyRange K → ℤ → Reply K → Ranges K → Ranges K → Type 0
  IsTried range value Done before after =
      (¬ IsInTheWay before range) × IsBoundAfter order int_eq before after range value
  IsTried range value Memory before after = after ≡ before
  IsTried range value (Taken met) before after =
      IsTaken (Taken met) before range × (after ≡ before)
  IsTried range value reply before after = ⊥

  -- a list that has just these bindings, of which the last that holds a key counts
  abbrev pub IsMadeFrom : List (AnyRange K × ℤ) → Reply K → Ranges K → Ranges K → Type 0
  IsMadeFrom bindings Done before after =
      AreBoundAfter order int_eq [] after (map pair_item bindings)
  IsMadeFrom bindings Memory before after = after ≡ before
  IsMadeFrom bindings reply before after = ⊥

  -- what a change makes of a list, with its reply; no memory leaves it as it was
  abbrev pub IsChanged : Change K → Reply K → Ranges K → Ranges K → Type 0
  IsChanged (Insert range value) Done before after =
      IsBoundAfter order int_eq before after range value
  IsChanged (Insert range value) Memory before after = after ≡ before
  IsChanged (Try range value) reply before after = IsTried range value reply before after
  IsChanged (Remove range) Done before after = IsUnboundAfter order int_eq before after range
  IsChanged (Remove range) Memory before after = after ≡ before
  IsChanged (Drop value) Done before after = after ≡ filter (has_another value) before
  IsChanged (From bindings) reply before after = IsMadeFrom bindings.items reply before after
  IsChanged PopFirst (Stored stored) before after = before ≡ pair_item stored ∷ after
  IsChanged PopFirst Nothing before after = (before ≡ []) × (after ≡ [])
  IsChanged PopLast (Stored stored) before after = before ≡ after ++ pair_item stored ∷ []
  IsChanged PopLast Nothing before after = (before ≡ []) × (after ≡ [])
  IsChanged Clear Done before after = after ≡ []
  IsChanged change reply before after = ⊥

  -- what is replied to a question over a list, kept in a tree of so many levels
  abbrev pub IsAnswer : Question K → Reply K → Ranges K → ℕ → Type 0
  IsAnswer (Get key) (Value value) items levels = Binds order int_eq items key (Some value)
  IsAnswer (Get key) Nothing items levels = Binds order int_eq items key None
  IsAnswer (At key) (Stored stored) items levels = IsItemFor order items key (pair_item stored)
  IsAnswer (At key) Nothing items levels = ¬ IsBound order items key
  IsAnswer (Has key) (Truth answer) items levels = IsTrue answer ↔ IsBound order items key
  IsAnswer (Meets range) (Truth answer) items levels =
      IsTrue answer ↔ IsInTheWay items range
  IsAnswer (All range) (Truth answer) items levels =
      IsTrue answer ↔ ((part : AnyRange K) → ¬ IsFreePart order items range part)
  IsAnswer First (Stored stored) items levels =
      (rest : Ranges K) × (items ≡ pair_item stored ∷ rest)
  IsAnswer First Nothing items levels = items ≡ []
  IsAnswer Last (Stored stored) items levels =
      (front : Ranges K) × (items ≡ front ++ pair_item stored ∷ [])
  IsAnswer Last Nothing items levels = items ≡ []
  IsAnswer Count (Number number) items levels = number ≡ length items
  IsAnswer Len (Number number) items levels = IsNumberOfKeys order (IsBound order items) number
  IsAnswer Levels (Number number) items levels = number ≡ levels
  IsAnswer question reply items levels = ⊥

  -- the stored ranges that meet one; an empty range meets none
  abbrev pub AreMet : Ranges K → AnyRange K → Ranges K → Type 0
  AreMet items range met =
      (IsEmptyRange order range → met ≡ [])
      × (¬ IsEmptyRange order range → AreOverlapping order items range met)

  -- the lines that list some of the stored or of the free ranges
  abbrev pub IsListed : Listing K → Ranges K → List ℕ → Type 0
  IsListed Show items text = SpellsLines SpellsItem (codes "empty\n") items text
  IsListed Gaps items text =
      (gaps : List (AnyRange K)) × AreGaps order items gaps
      × SpellsLines SpellsGap (codes "full\n") gaps text
  IsListed (Over range) items text =
      (met : Ranges K) × AreMet items range met × SpellsLines SpellsItem (codes "empty\n") met text
  IsListed (Free range) items text =
      (gaps : List (AnyRange K)) × AreGapsWithin order items range gaps
      × SpellsLines SpellsGap (codes "full\n") gaps text
  IsListed (Pieces range) items text =
      (pieces : List (Item (AnyRange K) (Option ℤ))) × ArePieces order items range pieces
      × SpellsLines SpellsPiece (codes "empty\n") pieces text
