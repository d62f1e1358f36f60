-- The elements of a multimap: those of a map to sets of values, none of which is empty.
use Rattle.std.proofs.Common.{◌≡◌, refl, ap, ℕ, Bool, true, false, IsTrue, List, [], ◌∷◌, Some, None, arith}
use Rattle.std.specs.BTreeSet.{BTreeSet, IsEmpty, contains}
use Rattle.std.specs.Cmp.{IsTotalOrder, tied_itself}
use Rattle.std.specs.List.{AllZip, list_any}
use Rattle.std.specs.Ordering.{eq_by_cmp, is_eq}
use Rattle.std.specs.declared.cmp.Ordering.{Ordering}
use Rattle.serde_json.specs.Data.{Data}
use Rattle.range_algebra.specs.declared.any.AnyRange.{AnyRange}
use Rattle.range_store.specs.declared.storage.Item.{Item}
use Rattle.range_multimaps.specs.ListedMembers.{tree_void}
use Rattle.range_multimaps.specs.Pairs.{HasNoEmptySet}
use Rattle.range_json.specs.declared.error.JsonError.{JsonError}
use Rattle.range_json.specs.MapFaults.{element_fault, IsElementRead}
use Rattle.range_json.specs.ValueSets.{reads_all, reads_some, reads_values, reads_some_values, AreValuesRead}
use Rattle.range_json.specs.Values.{AreItemValues}
use Rattle.range_json.specs.declared.error.JsonError.TheVariants.{Value}

module _ (key_reads reads : Data → Bool) (i : ℕ) where
  -- a fault of an element of a map to sets is one of a multimap's
  pub fault_too : (d : Data) (e : JsonError)
      → element_fault key_reads (reads_values reads) i d ≡ Some e
      → element_fault key_reads (reads_some_values reads) i d ≡ Some e
  fault_too d e h = grind (arith, h)

  module _ {K V : Type 0} (cmp : V → V → Ordering) (total : IsTotalOrder cmp)
      (key_is_read : Data → K → Type 0) (is_read : Data → V → Type 0) where
    none_read : (ds : List Data) (values : List V) (s : BTreeSet V) → AllZip is_read ds values
        → ((q : V) → contains cmp s q ≡ list_any (eq_by_cmp cmp q) values) → IsEmpty s
        → reads_some reads (Some ds) ≡ false
    none_read [] values s zip has empty = refl
    none_read (d ∷ ds) [] s zip has empty = absurd zip
    none_read (d ∷ ds) (v ∷ values) s zip has empty =
        let none : contains cmp s v ≡ false = ap (list_any (eq_by_cmp cmp v)) empty in
        let itself : eq_by_cmp cmp v v ≡ true = ap is_eq (tied_itself total v) in
        let some = has v in
        absurd cc

    some_read : (ds : List Data) (values : List V) (s : BTreeSet V) → AllZip is_read ds values
        → ((q : V) → contains cmp s q ≡ list_any (eq_by_cmp cmp q) values) → ¬ IsEmpty s
        → IsTrue (reads_all reads (Some ds)) → IsTrue (reads_some reads (Some ds))
    some_read [] [] s zip has full h = absurd (full ((tree_void cmp total s).1 has))
    some_read [] (v ∷ values) s zip has full h = absurd zip
    some_read (d ∷ ds) values s zip has full h = h

    -- an element with an empty set has the fault of its value
    pub empty_fault : (d : Data) (x : Item (AnyRange K) (BTreeSet V))
        → element_fault key_reads (reads_values reads) i d ≡ None
        → IsElementRead key_is_read (AreValuesRead cmp is_read) d x → IsEmpty x.value
        → element_fault key_reads (reads_some_values reads) i d ≡ Some (Value i)
    empty_fault d x fine (ds, e, range, value) empty =
        let none = none_read value.ds value.values x.value value.read value.set.0 empty in
        grind (arith, e, fine, value.whole, none)

    -- an element without fault whose set is not empty
    pub full_sound : (d : Data) (x : Item (AnyRange K) (BTreeSet V))
        → element_fault key_reads (reads_values reads) i d ≡ None
        → IsElementRead key_is_read (AreValuesRead cmp is_read) d x → ¬ IsEmpty x.value
        → element_fault key_reads (reads_some_values reads) i d ≡ None
    full_sound d x fine (ds, e, range, value) full =
        let some = some_read value.ds value.values x.value value.read value.set.0 full in
        grind (arith, e, fine, value.whole, some)

-- the sets of such items are not empty
pub full_items : {K V : Type 0} (is_value : K → Type 0) (IsSet : BTreeSet V → Type 0)
    (items : List (Item (AnyRange K) (BTreeSet V))) → AreItemValues is_value IsSet items
    → HasNoEmptySet IsEmpty items → AreItemValues is_value (λ s. IsSet s × ¬ IsEmpty s) items
full_items is_value IsSet [] v full = tt
full_items is_value IsSet (x ∷ xs) v full =
    ((v.0.0, (v.0.1, full.0)), full_items is_value IsSet xs v.1 full.1)
