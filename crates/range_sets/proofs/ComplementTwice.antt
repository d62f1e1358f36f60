-- The gaps of the gaps of a stored list are its ranges.
use Rattle.std.proofs.Common.{◌≡◌, refl, ap, ◌∙◌, Some, None, true, ◌&&◌, IsTrue, List, [], ◌∷◌, inl, inr, arith}
use Rattle.std.specs.List.{AllZip, AllByRecursion as Every}
use Rattle.std.specs.declared.cmp.Ordering.TheVariants.{Equal}
use Rattle.std.specs.declared.ops.Bound.TheVariants.{Unbounded}
use Rattle.std.specs.Ordering.{is_eq, eq_by_cmp}
use Rattle.std.proofs.lemmas.Bool.{and_from}
use Rattle.range_keys.specs.Order.{KeyOrder, IsLawful}
use Rattle.range_keys.proofs.Orderings.{not_both_greater_and_not, not_greater}
use Rattle.range_algebra.specs.declared.any.AnyRange.{AnyRange}
use Rattle.range_algebra.proofs.Lists.{every_weaker}
use Rattle.range_runs.proofs.RangePieces.{any_over, every_with}
use Rattle.range_runs.proofs.Windows.{every_both}
use Rattle.range_algebra.specs.Intervals.{Any}
use Rattle.range_algebra.specs.RangeOrder.{range_cmp, range_total}
use Rattle.range_algebra.specs.Relations.{LiesBefore}
use Rattle.range_algebra.proofs.Positions.{unbounded_start}
use Rattle.range_store.specs.declared.storage.Item.{Item}
use Rattle.range_reads.specs.FreeRanges.{full_range, AreGaps, free_from}
use Rattle.range_reads.specs.ListOrder.{same_list}
use Rattle.range_runs.specs.Pieces.{LiesIn, IsFreePart, IsPiece}
use Rattle.range_runs.specs.Lookups.{Overlap}
use Rattle.range_map.proofs.FreeParts.{gaps_are}
use Rattle.range_map.proofs.FreePieces.{Pairs}
use Rattle.range_runs.proofs.Forms.{stored_known}
use Rattle.range_bulk.proofs.Ascending.{IsAscending, stored_ascends}
use Rattle.range_sets.proofs.Filling.{all_equal}
use Rattle.range_sets.proofs.FullRanges.{IsFull, all_full, ascending_pairs, ends_full}
use Rattle.range_runs.proofs.Listed.{stored_list_is_listed}
use Rattle.range_sets.specs.Complements.{EqualGapsOf}
use Rattle.range_set_extend.specs.KeySets.{IsStoredSet}
use Rattle.range_sets.proofs.Enclosing.{missing_gaps_is_within_item}
use Rattle.range_sets.proofs.Matching.{equal_within, overlap_within, row_pairs, InSome, only_one_lies_in_range, mutual_cover_matches}

-- what holds of each member for each value holds of each member for every value
every_for : {X Y : Type 0} (P : Y → X → Type 0) (xs : List X) → ((y : Y) → Every (P y) xs)
    → Every (λ x. (y : Y) → P y x) xs
every_for P [] f = tt
every_for P (x ∷ xs) f = (λ y. (f y).0, every_for P xs (λ y. (f y).1))

every_swap : {X Y : Type 0} (R : X → Y → Type 0) (xs : List X) (ys : List Y)
    → Every (λ y. Every (λ x. R x y) xs) ys → Every (λ x. Every (R x) ys) xs
every_swap R [] ys h = tt
every_swap R (x ∷ xs) ys h = grind (arith, every_weaker, every_swap R xs ys)

module _ {K : Type 0} (order : KeyOrder K) (lawful : IsLawful order) where
  abbrev Stored : Type 0
  Stored = Item (AnyRange K) (Unit {0})

  abbrev Equals : List Stored → List (AnyRange K) → Type 0
  Equals others gaps = AllZip (λ i g. range_cmp order i.key g ≡ Equal) others gaps

  -- what misses all of a list misses what equals one of its ranges
  missed_equal : (others : List Stored) (gaps : List (AnyRange K)) (f r : AnyRange K)
      → Equals others gaps → Every (λ j. ¬ Overlap order j.key r) others
      → Any (λ g. range_cmp order g f ≡ Equal) gaps → Overlap order f r → ⊥
  missed_equal [] [] f r zip missed found meets = found
  missed_equal [] (g ∷ gaps) f r zip missed found meets = zip
  missed_equal (j ∷ others) [] f r zip missed found meets = zip
  missed_equal (j ∷ others) (g ∷ gaps) f r zip missed (inl e) meets =
      missed.0 (overlap_within order lawful g j.key r (equal_within order lawful j.key g zip.0).1
      (overlap_within order lawful f g r (equal_within order lawful g f e).1 meets))
  missed_equal (j ∷ others) (g ∷ gaps) f r zip missed (inr found) meets =
      missed_equal others gaps f r zip.1 missed.1 found meets

  -- what all gaps miss, all that equal them miss
  all_missed : (items others : List Stored) (gaps : List (AnyRange K)) → Equals others gaps
      → Every (λ g. Every (λ i. ¬ Overlap order i.key g) items) gaps
      → Every (λ j. Every (λ i. ¬ Overlap order j.key i.key) items) others
  all_missed items [] [] zip missed = tt
  all_missed items [] (g ∷ gaps) zip missed = tt
  all_missed items (j ∷ others) [] zip missed = absurd zip
  all_missed items (j ∷ others) (g ∷ gaps) zip missed = (
    every_weaker _ _ items (λ i apart meets.
        let turned = overlap_within order lawful j.key g i.key
        (equal_within order lawful j.key g zip.0).0 meets in apart (turned.1, turned.0)) missed.0,
    all_missed items others gaps zip.1 missed.1,
  )

  equal_gaps_are_same_list : (thirds : List Stored) (gaps : List (AnyRange K)) (items : List Stored)
      → Equals thirds gaps → AllZip (λ g i. range_cmp order g i.key ≡ Equal) gaps items
      → IsTrue (same_list order (λ _ _. true) thirds items)
  equal_gaps_are_same_list [] [] [] h k = refl
  equal_gaps_are_same_list [] (g ∷ gaps) items h k = absurd h
  equal_gaps_are_same_list (t ∷ thirds) [] items h k = absurd h
  equal_gaps_are_same_list (t ∷ thirds) (g ∷ gaps) (i ∷ items) h k =
      let total = range_total order lawful in
      let same = ap is_eq (total.congr t.key g i.key h.0 ∙ k.0) in
      and_from (eq_by_cmp (range_cmp order) t.key i.key && true)
      (same_list order (λ _ _. true) thirds items)
      (and_from (eq_by_cmp (range_cmp order) t.key i.key) true same refl)
      (equal_gaps_are_same_list thirds gaps items h.1 k.1)
  equal_gaps_are_same_list thirds gaps items h k = absurd k

  module _ (items others : List Stored) (form : IsStoredSet order items) (gaps : List (AnyRange K))
      (are : AreGaps order items gaps) (zip : Equals others gaps) where
    abbrev IsFree : AnyRange K → Type 0
    IsFree r = IsFreePart order others full_range r

    up : IsAscending order items
    up = stored_ascends lawful form

    full_items : Every (λ i. IsFull order lawful i.key) items
    full_items = grind (arith, all_equal, all_full, stored_known, up)

    pairs : Pairs (λ i j. LiesBefore order i.key j.key) items
    pairs = ascending_pairs order lawful items up

    free_full : (r : AnyRange K) → IsFree r → IsFull order lawful r
    free_full r free = grind (arith, not_greater)

    -- what is free of the complement misses all that is free of the set
    free_range_misses_gaps : (r : AnyRange K) → IsFree r
        → Every (λ f. ¬ Overlap order f r) (free_from order (Some Unbounded) items)
    free_range_misses_gaps r free =
        every_weaker _ _ _ (grind (arith, missed_equal))
        (gaps_are lawful all_equal items form).each

    -- and so it lies in a range of the set
    free_range_is_within_item : (r : AnyRange K) → IsFree r
        → InSome order lawful (λ i. i.key) r items
    free_range_is_within_item r free =
        let full = free_full r free in
        missing_gaps_is_within_item order lawful (Some Unbounded) items r
        (stored_list_is_listed order lawful (λ _ _. true) items form) full
        (unbounded_start order lawful r.start full.0.0) (free_range_misses_gaps r free)

    item_free : (i : Stored) → IsFull order lawful i.key
        → Every (λ j. ¬ Overlap order j.key i.key) others → IsFree i.key
    item_free i full missed = grind (arith, ends_full, not_both_greater_and_not, unbounded_start)

    abbrev FreeRange : Type 0
    FreeRange = (r : AnyRange K) × IsFree r

    items_wide : Every (λ i. (other : FreeRange) → LiesIn order i.key other.0
        → LiesIn order other.0 i.key) items
    items_wide =
        every_for (λ (other : FreeRange) i. LiesIn order i.key other.0 → LiesIn order other.0 i.key)
        items (λ other. only_one_lies_in_range order lawful
        (λ i. i.key) other.0 items full_items pairs (free_range_is_within_item other.0 other.1))

    items_missed : Every (λ i. Every (λ j. ¬ Overlap order j.key i.key) others) items
    items_missed =
        every_swap (λ i j. ¬ Overlap order j.key i.key) items others
        (all_missed items others gaps zip
        (every_weaker _ _ gaps (λ g piece. piece.0.free) are.each))

    -- each range of the set is a gap of the complement
    items_pieces : Every (λ i. IsPiece order others full_range i.key None) items
    items_pieces =
        every_with _ _ _ items full_items (every_both _ _ items items_missed items_wide)
        (λ i full also. (item_free i full also.0, λ other free. also.1 (other, free)))

    -- the gaps of the complement are the ranges of the set
    gaps_of_gaps_are_equal : (again : List (AnyRange K)) → AreGaps order others again
        → AllZip (λ g i. range_cmp order g i.key ≡ Equal) again items
    gaps_of_gaps_are_equal again were =
        let full : Every (λ g. IsFull order lawful g) again =
        every_weaker _ _ again (λ g piece. free_full g piece.0) were.each in
        mutual_cover_matches order lawful (λ g. g) (λ i. i.key) again items full full_items
        (row_pairs order lawful again full were.rising) pairs
        (every_weaker _ _ again (λ g piece. free_range_is_within_item g piece.0) were.each)
        (grind (arith, any_over, equal_within, every_weaker, items_pieces))

  -- the complement of the complement of a set equals it
  pub complement_twice : (items others thirds : List Stored) → IsStoredSet order items
      → EqualGapsOf order items others → EqualGapsOf order others thirds
      → IsTrue (same_list order (λ _ _. true) thirds items)
  complement_twice items others thirds form first second =
      grind (arith, equal_gaps_are_same_list, gaps_of_gaps_are_equal)
