-- Two rows of disjoint ranges, each of which lies in some range of the other row, are equal one by
-- one.
use Rattle.std.proofs.Common.{◌≡◌, List, [], ◌∷◌, inl, inr, arith}
use Rattle.std.specs.List.{AllZip, AllByRecursion as Every}
use Rattle.std.specs.declared.cmp.Ordering.TheVariants.{Equal}
use Rattle.range_keys.specs.Order.{KeyOrder, IsLawful}
use Rattle.range_keys.proofs.Orderings.{both_equal}
use Rattle.range_algebra.specs.declared.any.AnyRange.{AnyRange}
use Rattle.range_algebra.proofs.Lists.{every_weaker}
use Rattle.range_algebra.specs.Intervals.{Any}
use Rattle.range_runs.proofs.PlaceOrder.{eq_le, eq_ge, lt_le, le_trans, lt_not_le, lt_le_trans, le_lt_trans, lt_trans}
use Rattle.range_algebra.specs.RangeOrder.{range_cmp}
use Rattle.range_algebra.specs.Relations.{LiesBefore}
use Rattle.range_runs.specs.Neighbours.{EachNext}
use Rattle.range_runs.specs.Pieces.{LiesIn}
use Rattle.range_runs.specs.Lookups.{Overlap}
use Rattle.range_map.proofs.FreePieces.{Pairs}
use Rattle.range_sets.proofs.FullRanges.{IsFull, same_range}

module _ {K : Type 0} (order : KeyOrder K) (lawful : IsLawful order) where
  pub equal_within : (r s : AnyRange K) → range_cmp order r s ≡ Equal
      → LiesIn order r s × LiesIn order s r
  equal_within r s e = grind (arith, both_equal, eq_le, eq_ge)

  -- what meets a range meets the one that it lies in
  pub overlap_within : (r s t : AnyRange K) → LiesIn order r s → Overlap order r t
      → Overlap order s t
  overlap_within r s t within meets = grind (arith, le_lt_trans, lt_le_trans)

  pub within_trans : (r s t : AnyRange K) → LiesIn order r s → LiesIn order s t → LiesIn order r t
  within_trans r s t h k = grind (arith, le_trans)

  -- no nonempty range lies in one that it is after
  behind_not_within : (r s : AnyRange K) → IsFull order lawful s → LiesBefore order r s
      → LiesIn order s r → ⊥
  behind_not_within r s full before within = grind (arith, lt_not_le, le_trans)

  not_before_each_other : (r s : AnyRange K) → IsFull order lawful r → IsFull order lawful s
      → LiesBefore order r s → LiesBefore order s r → ⊥
  not_before_each_other r s full full_s before after =
      grind (arith, lt_not_le, lt_le, le_trans, lt_le_trans)

  -- the ranges of a row, where each stands before the next, are each before all after it
  pub row_pairs : (ranges : List (AnyRange K)) → Every (IsFull order lawful) ranges
      → EachNext (LiesBefore order) ranges → Pairs (LiesBefore order) ranges
  row_pairs [] full rising = tt
  row_pairs (r ∷ []) full rising = (tt, tt)
  row_pairs (r ∷ s ∷ rest) full rising =
      grind (arith, every_weaker, lt_le_trans, lt_trans, row_pairs (s ∷ rest) full.1 rising.1)

  module _ {A : Type 0} (range : A → AnyRange K) where
    abbrev FullAll : List A → Type 0
    FullAll xs = Every (λ x. IsFull order lawful (range x)) xs

    abbrev BeforeAll : AnyRange K → List A → Type 0
    BeforeAll r xs = Every (λ x. LiesBefore order r (range x)) xs

    abbrev pub InSome : AnyRange K → List A → Type 0
    InSome r xs = Any (λ x. LiesIn order r (range x)) xs

    -- a range that lies in one of a row's rest is after the row's first
    behind_first : (r s : AnyRange K) (xs : List A) → BeforeAll r xs → InSome s xs
        → LiesBefore order r s
    behind_first r s [] before within = absurd within
    behind_first r s (x ∷ xs) before (inl h) = grind (arith, lt_le_trans)
    behind_first r s (x ∷ xs) before (inr h) = behind_first r s xs before.1 h

    none_back : (r s : AnyRange K) (xs : List A) → LiesIn order r s → FullAll xs → BeforeAll s xs
        → Every (λ x. LiesIn order (range x) r → LiesIn order r (range x)) xs
    none_back r s [] within full before = tt
    none_back r s (x ∷ xs) within full before =
        grind (arith, behind_not_within, within_trans, none_back r s xs within full.1 before.1)

    -- a range that lies in one of a row holds at most that one
    pub only_one_lies_in_range : (r : AnyRange K) (xs : List A) → FullAll xs
        → Pairs (λ x y. LiesBefore order (range x) (range y)) xs → InSome r xs
        → Every (λ x. LiesIn order (range x) r → LiesIn order r (range x)) xs
    only_one_lies_in_range r [] full pairs within = tt
    only_one_lies_in_range r (x ∷ xs) full pairs (inl h) =
        (λ _. h, none_back r (range x) xs h full.1 pairs.0)
    only_one_lies_in_range r (x ∷ xs) full pairs (inr h) =
        let apart = behind_first (range x) r xs pairs.0 h in
        let later = only_one_lies_in_range r xs full.1 pairs.1 h in
        grind (arith, lt_not_le, le_trans)

  module _ {A B : Type 0} (range : A → AnyRange K) (other : B → AnyRange K) where
    -- what is after the first of one row lies in the rest of the other
    rest_within : (x : A) (y : B) (xs : List A) (ys : List B) → LiesIn order (other y) (range x)
        → FullAll range xs → BeforeAll range (range x) xs
        → Every (λ z. InSome other (range z) (y ∷ ys)) xs
        → Every (λ z. InSome other (range z) ys) xs
    rest_within x y [] ys within full before all = tt
    rest_within x y (z ∷ xs) ys within full before all =
        grind (arith, behind_not_within, within_trans, rest_within x y xs ys within full.1)

    first_same : (x : A) (y : B) (xs : List A) (ys : List B) → FullAll range (x ∷ xs)
        → FullAll other (y ∷ ys) → BeforeAll range (range x) xs → BeforeAll other (other y) ys
        → InSome other (range x) (y ∷ ys) → InSome range (other y) (x ∷ xs)
        → LiesIn order (range x) (other y) × LiesIn order (other y) (range x)
    first_same x y xs ys full full' before before' (inl h) (inl k) = (h, k)
    first_same x y xs ys full full' before before' (inl h) (inr k) =
        grind (arith, behind_first, le_trans, lt_not_le)
    first_same x y xs ys full full' before before' (inr h) (inl k) =
        grind (arith, behind_first, le_trans, lt_not_le)
    first_same x y xs ys full full' before before' (inr h) (inr k) =
        absurd (not_before_each_other (range x) (other y) full.0 full'.0
        (behind_first range (range x) (other y) xs before k)
        (behind_first other (other y) (range x) ys before' h))

  module _ {A B : Type 0} (range : A → AnyRange K) (other : B → AnyRange K) where
    -- two rows of which each range lies in some of the other row
    pub mutual_cover_matches : (xs : List A) (ys : List B) → FullAll range xs → FullAll other ys
        → Pairs (λ x z. LiesBefore order (range x) (range z)) xs
        → Pairs (λ y z. LiesBefore order (other y) (other z)) ys
        → Every (λ x. InSome other (range x) ys) xs → Every (λ y. InSome range (other y) xs) ys
        → AllZip (λ x y. range_cmp order (range x) (other y) ≡ Equal) xs ys
    mutual_cover_matches [] [] full full' pairs pairs' all all' = tt
    mutual_cover_matches [] (y ∷ ys) full full' pairs pairs' all all' = absurd all'.0
    mutual_cover_matches (x ∷ xs) [] full full' pairs pairs' all all' = absurd all.0
    mutual_cover_matches (x ∷ xs) (y ∷ ys) full full' pairs pairs' all all' =
        let first = first_same range other x y xs ys full full' pairs.0 pairs'.0 all.0 all'.0 in (
          same_range order lawful (range x) (other y) first.0 first.1,
          mutual_cover_matches xs ys full.1 full'.1 pairs.1 pairs'.1
              (rest_within range other x y xs ys first.1 full.1 pairs.0 all.1)
              (rest_within other range y x ys xs first.0 full'.1 pairs'.0 all'.1),
        )
