-- Where the items of a list do not hold a key.
use Rattle.range_bulk.proofs.BoundKeys.{none_holds as none_are_held}
use Rattle.range_map.proofs.Common.{arith, ℕ, List, length, take, ◌≤◌, All, take_all, KeyOrder, Holds, AnyRange, Item, IsBound, recursion_from_All}

module _ {K : Type 0} (order : KeyOrder K) {V : Type 0} where
  pub none_holds : (items : List (Item (AnyRange K) V)) (n : ℕ) (k : K) → length items ≤ n
      → All (λ i. ¬ Holds order i.key k) (take n items) → ¬ IsBound order items k
  none_holds items n k l all =
      (none_are_held order items k).1 (grind (arith, recursion_from_All, take_all))
