-- How far an iterator over ranges was taken, and what was added on the way.
use Rattle.std.specs.Prelude.{Option, Some, List, map}
use Rattle.std.specs.Iterator.{Drains, YieldsThen}
use Rattle.range_keys.specs.Order.{KeyOrder}
use Rattle.range_algebra.specs.Range.{IsEmptyRange}
use Rattle.range_algebra.specs.declared.any.AnyRange.{AnyRange}

module _ {U S R K : Type 0} (becomes : U → S → Type 0) (steps : S → Option R → S → Type 0)
    (range : R → AnyRange K) (iter : U) where
  -- P holds of the ranges of all items
  abbrev pub AfterAll : (List (AnyRange K) → Type 0) → Type 0
  AfterAll P =
      (source : S) × (items : List R) × becomes iter source × Drains steps source items
      × P (map range items)

  -- P holds of the ranges of the items before one whose range is nonempty
  abbrev pub AfterSome : KeyOrder K → (List (AnyRange K) → Type 0) → Type 0
  AfterSome order P =
      (source : S) × (items : List R) × (next : R) × (rest : S) × becomes iter source
      × YieldsThen steps source items (Some next) rest × (¬ IsEmptyRange order (range next))
      × P (map range items)
