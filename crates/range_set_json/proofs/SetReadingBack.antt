-- What is written of a set is read back as an equal one.
use Rattle.std.proofs.Common.{◌≡◌, refl, sym, ap, subst, ◌∙◌, ℕ, suc, List, [], ◌∷◌, map, Bool, true, IsTrue, Some, None}
use Rattle.std.proofs.lemmas.List.Elements.{All-from_recursion}
use Rattle.std.proofs.lemmas.Option.{same_Some}
use Rattle.std.specs.List.{AllByRecursion, AllZip}
use Rattle.std.specs.declared.cmp.Ordering.TheVariants.{Equal}
use Rattle.serde_json.specs.Data.{Data}
use Rattle.range_keys.specs.Order.{KeyOrder, IsLawful}
use Rattle.range_algebra.specs.declared.any.AnyRange.{AnyRange}
use Rattle.range_algebra.specs.Range.{IsKeyRange}
use Rattle.range_store.specs.declared.storage.Item.{Item}
use Rattle.range_reads.specs.FreeRanges.{item_ranges}
use Rattle.range_map.proofs.CloneLists.{equal_items_are_copy, copy_stored}
use Rattle.range_sets.proofs.Filling.{all_equal}
use Rattle.range_sets.proofs.Likeness.{same_sets}
use Rattle.range_sets.specs.KeySets.{IsStoredSet}
use Rattle.range_sets.specs.SetOrder.{same_ranges}
use Rattle.range_json.specs.SetReadBack.{list_back}
use Rattle.range_json.specs.Shapes.{range_shape, set_shape}
use Rattle.range_json.specs.Values.{AreRangeValues}
use Rattle.range_json.proofs.ReadingBack.{Copied, item_back, range_sound, same_copies}
use Rattle.range_set_json.specs.Faults.{first_fault, range_fault, range_items, set_fault, IsRangeRead, IsSetRead}

module _ {K : Type 0} (order : KeyOrder K) (shape : K → Data) (reads : Data → Bool)
    (is_value : K → Type 0) (is_read : Data → K → Type 0) where
  ranges_sound : (written : (x : K) → is_value x → IsTrue (reads (shape x))) (i : ℕ)
      (items : List (Item (AnyRange K) (Unit {0}))) → AreRangeValues is_value items
      → first_fault (range_fault reads) i (map (range_shape shape) (item_ranges items)) ≡ None
  ranges_sound written i [] v = refl
  ranges_sound written i (x ∷ xs) v =
      rw (range_sound order shape reads is_value is_read written i x.key v.0)
      (ranges_sound written (suc i) xs v.1)

  -- a written set has no fault
  pub set_sound : (written : (x : K) → is_value x → IsTrue (reads (shape x)))
      (items : List (Item (AnyRange K) (Unit {0}))) → AreRangeValues is_value items
      → set_fault reads (set_shape shape items) ≡ None
  set_sound written items v =
      ap (λ ds. first_fault (range_fault reads) 0 ds)
      (list_back (map (range_shape shape) (item_ranges items))) ∙ ranges_sound written 0 items v

  module _ (back : (x y : K) → is_value x → is_read (shape x) y → order.cmp x y ≡ Equal)
      (lawful : IsLawful order) where
    abbrev Same : Item (AnyRange K) (Unit {0}) → Item (AnyRange K) (Unit {0}) → Type 0
    Same = Copied order shape reads is_value is_read back lawful (λ _ _. true) all_equal

    sets_back : (items : List (Item (AnyRange K) (Unit {0}))) (ranges : List (AnyRange K))
        → AreRangeValues is_value items
        → AllZip (IsRangeRead is_read) (map (range_shape shape) (item_ranges items)) ranges
        → AllZip Same items (range_items ranges)
    sets_back [] [] v h = tt
    sets_back [] (r ∷ rs) v h = absurd h
    sets_back (x ∷ xs) [] v h = absurd h
    sets_back (x ∷ xs) (r ∷ rs) v h = (
      item_back order shape reads is_value is_read back lawful (λ _ _. true) all_equal x
          (record { key = r; value = tt }) v.0 h.0 refl,
      sets_back xs rs v.1 h.1,
    )

    known_items : (ranges : List (AnyRange K)) → AllByRecursion (λ r. IsKeyRange order r) ranges
        → AllByRecursion (λ i. IsKeyRange order i.key) (range_items ranges)
    known_items [] h = tt
    known_items (r ∷ rs) h = (h.0, known_items rs h.1)

    -- a written set is read back as an equal one
    pub set_back : (items others : List (Item (AnyRange K) (Unit {0})))
        → AreRangeValues is_value items → IsStoredSet order items
        → IsSetRead is_read order (set_shape shape items) others
        → IsTrue (same_ranges order others items)
    set_back items others v stored h =
        let ranges = map (range_shape shape) (item_ranges items) in
        let listed : ranges ≡ h.ds =
        same_Some ranges h.ds (ap Some (sym (list_back ranges)) ∙ h.whole) in
        let copies =
        sets_back items h.ranges v
        (subst (λ ds. AllZip (IsRangeRead is_read) ds h.ranges) (sym listed) h.read) in
        let form =
        copy_stored lawful all_equal (range_items h.ranges) items
        (equal_items_are_copy lawful all_equal items
        (range_items h.ranges) copies)
        (All-from_recursion (λ i. IsKeyRange order i.key) (range_items h.ranges)
        (known_items h.ranges h.known)) stored in
        subst (λ is. IsTrue (same_ranges order is items)) (sym (h.kept form))
        (subst IsTrue (same_sets order (range_items h.ranges) items)
        (same_copies order shape reads is_value is_read back lawful
        (λ _ _. true) all_equal items (range_items h.ranges) copies))
