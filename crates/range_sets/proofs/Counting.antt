-- How many ranges a list has, and a set after an insertion.
use Rattle.std.proofs.Common.{◌≡◌, ◌≤◌, ◌+◌, refl, ap, arith, true, IsTrue, List, [], ◌∷◌, ◌++◌, length, length-append, Result, Ok, Err, OnOk, OnErr}
use Rattle.std.specs.List.{AllByRecursion as Every}
use Rattle.range_keys.specs.Order.{KeyOrder}
use Rattle.range_keys.proofs.Orderings.{greater_or_not}
use Rattle.range_algebra.specs.Range.{IsEmptyRange}
use Rattle.range_algebra.specs.declared.any.AnyRange.{AnyRange}
use Rattle.range_store.specs.declared.storage.Item.{Item}
use Rattle.range_runs.specs.Frames.{IsInsertionFrame}
use Rattle.range_reads.specs.FreeRanges.{item_ranges}

pub ranges_length : {K V : Type 0} (items : List (Item (AnyRange K) V))
    → length (item_ranges items) ≡ length items
ranges_length [] = refl
ranges_length (i ∷ rest) = omega (arith, ranges_length rest)

module _ {K : Type 0} (order : KeyOrder K) where
  abbrev Items : Type 0
  Items = List (Item (AnyRange K) (Unit {0}))

  all_alike : (run : Items) → Every (λ i. IsTrue true) run
  all_alike [] = tt
  all_alike (i ∷ rest) = (refl, all_alike rest)

  -- one range takes the place of those that the range joins
  one_for_all : (items new : Items) (r : AnyRange K)
      → IsInsertionFrame order (λ _ _. true) items new r tt
      → length new ≤ length items + 1
  one_for_all items new r h =
      omega (
        arith,
        h.such.one (all_alike h.run),
        ap length h.before,
        ap length h.after,
        length-append (h.front ++ h.run) h.behind,
        length-append h.front h.run,
        length-append (h.front ++ h.others) h.behind,
        length-append h.front h.others,
      )

  pub one_more : {E : Type 0} (result : Result (Unit {0}) E) (items new : Items) (r : AnyRange K)
      → OnOk result (¬ IsEmptyRange order r → IsInsertionFrame order (λ _ _. true) items new r tt)
      → OnErr result (new ≡ items) → (IsEmptyRange order r → new ≡ items)
      → length new ≤ length items + 1
  one_more (Err e) items new r frame refused empty = omega (arith, ap length refused)
  one_more (Ok x) items new r frame refused empty = grind (arith, greater_or_not, one_for_all)
