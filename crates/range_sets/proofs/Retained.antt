-- Which ranges are kept, where a closure is asked of the items that they are the keys of.
use Rattle.std.proofs.Common.{◌≡◌, refl, ap, Bool, true, false, List, [], ◌∷◌, arith}
use Rattle.std.specs.List.{items_where_true}
use Rattle.std.specs.List.Retain.{ReturnsInTurn, IsFiltered}
use Rattle.range_algebra.specs.declared.any.AnyRange.{AnyRange}
use Rattle.range_store.specs.declared.storage.Item.{Item}
use Rattle.range_reads.specs.FreeRanges.{item_ranges}
use Rattle.range_sets.proofs.Counting.{ranges_length}

module _ {K V : Type 0} where
  ranges_where_true : (bs : List Bool) (items : List (Item (AnyRange K) V))
      → item_ranges (items_where_true bs items) ≡ items_where_true bs (item_ranges items)
  ranges_where_true [] items = refl
  ranges_where_true (b ∷ bs) [] = refl
  ranges_where_true (true ∷ bs) (i ∷ items) = ap (λ rs. i.key ∷ rs) (ranges_where_true bs items)
  ranges_where_true (false ∷ bs) (i ∷ items) = ranges_where_true bs items

  module _ {S F : Type 0} (state : S → F) (R : S → Item (AnyRange K) V → Bool → S → Type 0)
      (Q : F → AnyRange K → Bool → F → Type 0)
      (asks : (s : S) (i : Item (AnyRange K) V) (b : Bool) (t : S) → R s i b t
      → Q (state s) i.key b (state t)) where
    asked_in_turn : (bs : List Bool) (items : List (Item (AnyRange K) V)) (s t : S)
        → ReturnsInTurn R s bs items t
        → ReturnsInTurn Q (state s) bs (item_ranges items) (state t)
    asked_in_turn [] items s t h = ap state h
    asked_in_turn (b ∷ bs) [] s t h = h
    asked_in_turn (b ∷ bs) (i ∷ items) s t h =
        (state h.0, asks s i b h.0 h.1, asked_in_turn bs items h.0 t h.2)

    -- a closure that asks another of each range keeps just those that the other does
    pub ranges_filtered : (s : S) (items new : List (Item (AnyRange K) V))
        → IsFiltered R s items new → IsFiltered Q (state s) (item_ranges items) (item_ranges new)
    ranges_filtered s items new h = grind (arith, asked_in_turn, ranges_length, ranges_where_true)
