-- A test that falls once along a list.
use Rattle.std.proofs.Common.{◌≡◌, ◌⊎◌, ℕ, zero, suc, ◌+◌, ◌<◌, ◌≤◌, Bool, true, false, cond, List, [], ◌∷◌, ◌++◌, length, get_or, refl, sym, ◌∙◌, arith, count_by, min}
use Rattle.std.specs.List.Sorted.{IsPartitionedBy}
use Rattle.std.proofs.lemmas.Bool.{false_from_ne_true, false≢true, both_ways}
use Rattle.std.proofs.lemmas.List.Sums.{sum_by-cons, sum_by-append, count_by-le-length}
use Rattle.range_store.specs.Counting.{greatest_count}
use Rattle.range_store.specs.ListRanks.{IsFrontOf}
use Rattle.range_tree.specs.Falling.{Falls}

module _ {X : Type 0} (p : X → Bool) where
  pub count-cons : (x : X) (xs : List X) → count_by p (x ∷ xs) ≡ cond (p x) 1 0 + count_by p xs
  count-cons x xs = sum_by-cons (λ y. cond (p y) 1 0) x xs

  pub count-yes : (x : X) (xs : List X) → p x ≡ true → count_by p (x ∷ xs) ≡ 1 + count_by p xs
  count-yes x xs holds = count-cons x xs ∙ rw holds refl

  pub count-no : (x : X) (xs : List X) → p x ≡ false → count_by p (x ∷ xs) ≡ count_by p xs
  count-no x xs fails = count-cons x xs ∙ rw fails (omega arith)

  pub true_or_false : (b : Bool) → (b ≡ true) ⊎ (b ≡ false)
  true_or_false b = grind arith

  pub falls_true : (xs : List X) (i : ℕ) (d : X) → Falls p xs → i < length xs
      → p (get_or xs i d) ≡ true → i + 1 ≤ count_by p xs
  unfolding Falls
  falls_true [] i d falls within holds = absurd (omega arith)
  falls_true (x ∷ xs) zero d falls within holds = omega (arith, count-yes x xs holds)
  falls_true (x ∷ xs) (suc i) d falls within holds =
      grind (arith, count-yes, falls_true xs i d falls.1 (omega arith) holds)

  pub falls_false : (xs : List X) (i : ℕ) (d : X) → Falls p xs → i < length xs
      → p (get_or xs i d) ≡ false → count_by p xs ≤ i
  unfolding Falls
  falls_false [] i d falls within fails = absurd (omega arith)
  falls_false (x ∷ xs) zero d falls within fails = omega (arith, count-no x xs fails)
  falls_false (x ∷ xs) (suc i) d falls within fails =
      grind (arith, count-yes, falls_false xs i d falls.1 (omega arith) fails)

  pub count-append : (xs ys : List X) → count_by p (xs ++ ys) ≡ count_by p xs + count_by p ys
  count-append xs ys = sum_by-append (λ y. cond (p y) 1 0) xs ys

  -- the parts of a list along which the test falls
  pub record FallsParts (xs ys : List X) : Type 0 where
    pub front : Falls p xs
    pub back : Falls p ys
    pub none : count_by p xs < length xs → count_by p ys ≡ 0

  pub falls_parts : (xs ys : List X) → Falls p (xs ++ ys) → FallsParts xs ys
  unfolding Falls
  falls_parts [] ys falls = record { front = tt; back = falls; none = λ less. absurd (omega arith) }
  falls_parts (x ∷ xs) ys falls = grind (arith, count-append, count-yes, falls_parts xs ys falls.1)

  none_counted : (xs : List X) → ((k : ℕ) (d : X) → k < length xs → p (get_or xs k d) ≡ false)
      → count_by p xs ≡ 0
  none_counted [] fails = refl
  none_counted (x ∷ xs) fails =
      omega (
        arith,
        count-no x xs (fails 0 x (omega arith)),
        none_counted xs (λ k d within. fails (suc k) d (omega arith)),
      )

  -- a test that holds on a front alone falls
  pub falls_partitioned : (xs : List X) → IsPartitionedBy p xs → Falls p xs
  unfolding Falls
  falls_partitioned [] part = tt
  falls_partitioned (x ∷ xs) part = (
    (λ fails. none_counted xs
        (λ k d within. false_from_ne_true _
        (λ holds. both_ways (p x) fails
        (part 0 (suc k) d (omega arith) (omega (arith, within)) holds)))),
    falls_partitioned xs (λ i j d le within holds.
        part (suc i) (suc j) d (omega arith) (omega (arith, within)) holds),
  )

  -- the items that pass are the first ones
  pub falling_front : (xs : List X) → Falls p xs → IsFrontOf p xs (count_by p xs)
  falling_front xs falls = grind (arith, count_by-le-length, true_or_false, falls_false, falls_true)

-- where a search stands that knows that `low` items pass, and `left` more may, with the steps that
-- were counted
pub record Narrowed {X : Type 0} (p : X → Bool) (xs : List X)
    (low left first now : ℕ) : Type 0 where
  pub within : low + left ≤ length xs
  pub at_least : low ≤ count_by p xs
  pub at_most : count_by p xs ≤ low + left
  pub few : now + left ≤ first + length xs
  pub later : min first greatest_count ≤ now
  pub begun : (min (first + 1) greatest_count ≤ now) ⊎ (left ≡ length xs)

module _ {X : Type 0} (p : X → Bool) (xs : List X) where
  -- what the answer to one item tells
  pub told : (i : ℕ) (d : X) → Falls p xs → i < length xs → (answer : Bool)
      → answer ≡ p (get_or xs i d)
      → (i + 1 ≤ count_by p xs → answer ≡ true) × (count_by p xs ≤ i → answer ≡ false)
  told i d falls within answer is = grind (arith, falls_true, falls_false)

-- a test that all items pass, and one that none does
pub count_all : {X : Type 0} (xs : List X) → count_by (λ _. true) xs ≡ length xs
count_all [] = refl
count_all (x ∷ xs) = omega (arith, sum_by-cons (λ _. 1) x xs, count_all xs)

pub count_none : {X : Type 0} (xs : List X) → count_by (λ _. false) xs ≡ 0
count_none [] = refl
count_none (x ∷ xs) = count_none xs

pub falls_all : {X : Type 0} (xs : List X) → Falls (λ _. true) xs
unfolding Falls
falls_all [] = tt
falls_all (x ∷ xs) = (λ fails. absurd (false≢true (sym fails)), falls_all xs)

pub falls_none : {X : Type 0} (xs : List X) → Falls (λ _. false) xs
unfolding Falls
falls_none [] = tt
falls_none (x ∷ xs) = (λ fails. count_none xs, falls_none xs)
