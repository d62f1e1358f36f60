-- Equality, order and hash of sets: those of the lists of their ranges.
use Rattle.std.specs.Prelude.{◌≡◌, ℕ, refl, Bool, IsTrue, List}
use Rattle.std.specs.declared.cmp.Ordering.{Ordering}
use Rattle.std.specs.declared.cmp.Ordering.TheVariants.{Equal}
use Rattle.std.specs.Hash.{slice, items_Alike}
use Rattle.std.specs.Ordering.{eq_by_cmp}
use Rattle.std.specs.Cmp.{IsEquivalence, IsTotalOrder, on_equiv, on_total, eq_by_cmp_equiv}
use Rattle.std.specs.Cmp.Lexicographic.{pointwise, slice_cmp, lists_equiv, lists_total, lists_ties}
use Rattle.range_keys.specs.Order.{KeyOrder, IsLawful}
use Rattle.range_algebra.specs.RangeOrder.{range_cmp, range_total, range_input, range_respects}
use Rattle.range_algebra.specs.declared.any.AnyRange.{AnyRange}
use Rattle.range_store.specs.declared.storage.Item.{Item}
use Rattle.range_reads.specs.FreeRanges.{item_ranges}

module _ {K : Type 0} (order : KeyOrder K) {V : Type 0} where
  -- as many ranges, each equal to the other's by position
  abbrev pub same_ranges : List (Item (AnyRange K) V) → List (Item (AnyRange K) V) → Bool
  same_ranges items others =
      pointwise (eq_by_cmp (range_cmp order)) (item_ranges items) (item_ranges others)

  -- the ranges in dictionary order
  abbrev pub ranges_cmp : List (Item (AnyRange K) V) → List (Item (AnyRange K) V) → Ordering
  ranges_cmp items others = slice_cmp (range_cmp order) (item_ranges items) (item_ranges others)

  -- what a hash is fed: the number of ranges, and then each
  abbrev pub ranges_input : (K → List (List ℕ)) → List (Item (AnyRange K) V) → List (List ℕ)
  ranges_input key_input items = slice (range_input order key_input) (item_ranges items)

  module _ (lawful : IsLawful order) where
    pub sets_equivalence : IsEquivalence same_ranges
    sets_equivalence =
        on_equiv item_ranges (lists_equiv (eq_by_cmp_equiv (range_total order lawful)))

    pub sets_order : IsTotalOrder ranges_cmp
    sets_order = on_total item_ranges (lists_total (range_total order lawful))

  -- the order answers Equal of what is equal
  pub sets_tied : (items others : List (Item (AnyRange K) V))
      → same_ranges items others ≡ eq_by_cmp ranges_cmp items others
  sets_tied items others =
      lists_ties (range_cmp order) (λ r s. refl) (item_ranges items) (item_ranges others)

  -- equal sets are fed alike
  pub sets_fed : (key_input : K → List (List ℕ))
      → ((a b : K) → order.cmp a b ≡ Equal → key_input a ≡ key_input b)
      → (items others : List (Item (AnyRange K) V)) → IsTrue (same_ranges items others)
      → ranges_input key_input items ≡ ranges_input key_input others
  sets_fed key_input keys items others =
      (items_Alike (record { fed = range_respects order key_input keys })).fed (item_ranges items)
      (item_ranges others)
