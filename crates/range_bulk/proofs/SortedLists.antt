-- Lists that are sorted up to a place, and what a map is built of.
use Rattle.range_bulk.proofs.Common.{common_steps, ◌≡◌, refl, ◌∙◌, ◌+◌, ◌<◌, ◌≤◌, ℕ, zero, suc, take, map, get_or, length, Some, List, [], ◌∷◌, ◌++◌, arith, map_more, take-map, KeyOrder, IsLawful, lower, Every, IsKeyRange, AnyRange, Item, full_range, IsFirstFault, IsNext, IsSorted, last_key}
use Rattle.range_bulk.proofs.JoinedItems.{RisesFrom, ascending_rises}
use Rattle.range_bulk.proofs.Ascending.{ascends}

pub last_is : {K V : Type 0} (xs : List (Item (AnyRange K) V)) (x : Item (AnyRange K) V)
    → last_key (xs ++ x ∷ []) ≡ Some x.key
last_is (y ∷ z ∷ rest) x = last_is (z ∷ rest) x
last_is xs x = refl

module _ {K : Type 0} (order : KeyOrder K) {V : Type 0} where
  tail_sorted : {x : Item (AnyRange K) V} {xs : List (Item (AnyRange K) V)} → IsSorted order (x ∷ xs)
      → IsSorted order xs
  tail_sorted sorted = record { nonempty = sorted.nonempty.1; rising = sorted.rising.1 }

  -- one more is sorted with the others where it is the next
  pub sorted_more : (xs : List (Item (AnyRange K) V)) (x : Item (AnyRange K) V)
      → IsSorted order xs → IsNext order (last_key xs) x.key → IsSorted order (xs ++ x ∷ [])
  sorted_more [] x sorted next =
      record { nonempty = (next, tt); rising = (tt, tt) }
  sorted_more (y ∷ []) x sorted next =
      record { nonempty = (sorted.nonempty.0, (next.0, tt)); rising = (next.1, (tt, tt)) }
  sorted_more (y ∷ z ∷ rest) x sorted next =
      let more = sorted_more (z ∷ rest) x (tail_sorted sorted) next in
      grind (arith, common_steps)

  pub more_sorted : (xs : List (Item (AnyRange K) V)) (x : Item (AnyRange K) V)
      → IsSorted order (xs ++ x ∷ []) → IsNext order (last_key xs) x.key
  more_sorted [] x sorted = sorted.nonempty.0
  more_sorted (y ∷ []) x sorted = (sorted.nonempty.1.0, sorted.rising.0)
  more_sorted (y ∷ z ∷ rest) x sorted =
      more_sorted (z ∷ rest) x (tail_sorted sorted)

  -- the first of what is sorted are sorted
  pub front_sorted : (n : ℕ) (xs : List (Item (AnyRange K) V)) → IsSorted order xs
      → IsSorted order (take n xs)
  front_sorted zero xs sorted = record { nonempty = tt; rising = tt }
  front_sorted (suc n) [] sorted = sorted
  front_sorted (suc zero) (x ∷ xs) sorted =
      record { nonempty = (sorted.nonempty.0, tt); rising = (tt, tt) }
  front_sorted (suc (suc n)) (x ∷ []) sorted = sorted
  front_sorted (suc (suc n)) (x ∷ y ∷ xs) sorted =
      let front = front_sorted (suc n) (y ∷ xs) (tail_sorted sorted) in
      grind (arith, common_steps)

  -- a sorted list has no fault
  pub sorted_has_none : (xs : List (Item (AnyRange K) V)) (n : ℕ) → IsSorted order xs
      → ¬ IsFirstFault order xs n
  sorted_has_none xs n sorted fault = fault.1 (front_sorted (n + 1) xs sorted)

  fewer : (m n : ℕ) (xs : List (Item (AnyRange K) V)) → m ≤ n → take m (take n xs) ≡ take m xs
  fewer (suc m) count xs le = grind (arith, common_steps, fewer m)
  fewer m n xs le = refl

  not_later : (xs : List (Item (AnyRange K) V)) (m n : ℕ) → IsFirstFault order xs m
      → IsFirstFault order xs n → ¬ (m < n)
  not_later xs m n fault other less =
      let same = fewer (m + 1) n xs (omega (arith, less)) in
      fault.1 (rw same at (front_sorted (m + 1) _ other.0))

  -- there is one first fault
  pub one_fault : (xs : List (Item (AnyRange K) V)) (m n : ℕ) → IsFirstFault order xs m
      → IsFirstFault order xs n → m ≡ n
  one_fault xs m n fault other = grind (arith, common_steps, not_later)

  module _ (lawful : IsLawful order) where
    -- a sorted list rises
    pub sorted_rises : (xs : List (Item (AnyRange K) V))
        → Every (λ i. IsKeyRange order i.key) xs → IsSorted order xs
        → RisesFrom order (lower order full_range) xs
    sorted_rises xs known sorted =
        ascending_rises lawful xs known (ascends lawful xs sorted.nonempty sorted.rising)

pub take_next : {X Y : Type 0} (f : X → Y) (xs : List X) (n : ℕ) (d : X) → n < length xs
    → take (n + 1) (map f xs) ≡ take n (map f xs) ++ f (get_or xs n d) ∷ []
take_next f xs n d less = take-map f (n + 1) xs ∙ map_more f xs n d less ∙ rw (take-map f n xs) refl
