-- Maps without values compare, hash and bind as the sets of their ranges do and hold.
use Rattle.std.proofs.Common.{◌≡◌, ℕ, refl, sym, ◌↔◌, Bool, true, false, ◌&&◌, List, [], ◌∷◌, ◌++◌, append-nil}
use Rattle.std.specs.Hash.{usize}
use Rattle.std.specs.List.{flat_map}
use Rattle.std.specs.Ordering.{eq_by_cmp, ordering_then}
use Rattle.std.specs.declared.cmp.Ordering.TheVariants.{Equal}
use Rattle.range_keys.specs.Order.{KeyOrder}
use Rattle.range_keys.proofs.Orderings.{any_then_equal}
use Rattle.range_algebra.specs.RangeOrder.{range_cmp, range_input}
use Rattle.range_algebra.specs.declared.any.AnyRange.{AnyRange}
use Rattle.range_store.specs.declared.storage.Item.{Item}
use Rattle.range_runs.specs.Bindings.{BindAlike}
use Rattle.range_reads.specs.FreeRanges.{item_ranges}
use Rattle.range_reads.specs.ListOrder.{same_list, list_cmp, list_input, item_input}
use Rattle.range_map.proofs.StoredLists.{same_keys}
use Rattle.range_set_extend.specs.KeySets.{HoldAlike}
use Rattle.range_sets.specs.SetOrder.{same_ranges, ranges_cmp, ranges_input}
use Rattle.range_sets.proofs.Counting.{ranges_length}

and_true : (b : Bool) → (b && true) ≡ b
and_true true = refl
and_true false = refl

module _ {K : Type 0} (order : KeyOrder K) where
  abbrev Items : Type 0
  Items = List (Item (AnyRange K) (Unit {0}))

  -- the lists bind alike exactly where they hold the same keys
  pub held_bound : (items others : Items) → HoldAlike order items others
      ↔ BindAlike order (λ _ _. true) items others
  held_bound items others = same_keys order (λ _ _. true) (λ _ _. refl) items others

  pub same_sets : (items others : Items)
      → same_list order (λ _ _. true) items others ≡ same_ranges order items others
  same_sets [] [] = refl
  same_sets [] (j ∷ others) = refl
  same_sets (i ∷ items) [] = refl
  same_sets (i ∷ items) (j ∷ others) =
      λ n. and_true (eq_by_cmp (range_cmp order) i.key j.key) n && same_sets items others n

  pub compared_sets : (items others : Items)
      → list_cmp order (λ _ _. Equal) items others ≡ ranges_cmp order items others
  compared_sets [] [] = refl
  compared_sets [] (j ∷ others) = refl
  compared_sets (i ∷ items) [] = refl
  compared_sets (i ∷ items) (j ∷ others) =
      λ n. ordering_then (any_then_equal (range_cmp order i.key j.key) n)
      (compared_sets items others n)

  module _ (key_input : K → List (List ℕ)) where
    each_input : (items : Items)
        → flat_map (item_input order key_input (λ _. [])) items
        ≡ flat_map (range_input order key_input) (item_ranges items)
    each_input [] = refl
    each_input (i ∷ items) =
        λ n. append-nil (range_input order key_input i.key) n ++ each_input items n

    pub hashed_sets : (items : Items)
        → list_input order key_input (λ _. []) items ≡ ranges_input order key_input items
    hashed_sets items = λ n. usize (sym (ranges_length items) n) ++ each_input items n
