-- What the laws say of sets and multimaps: what is written has no fault, and what is read there
-- equals it. The laws of ranges and maps are passed on.
use Rattle.std.specs.Prelude.{◌≡◌, List, None, Bool, IsTrue}
use Rattle.std.specs.BTreeSet.{BTreeSet, IsEmpty}
use Rattle.std.specs.declared.cmp.Ordering.{Ordering}
use Rattle.serde_json.specs.Data.{Data}
use Rattle.range_keys.specs.Order.{KeyOrder}
use Rattle.range_algebra.specs.declared.any.AnyRange.{AnyRange}
use Rattle.range_store.specs.declared.storage.Item.{Item}
use Rattle.range_reads.specs.ListOrder.{same_list}
use Rattle.range_runs.specs.Stored.{IsStored}
use Rattle.range_sets.specs.KeySets.{IsStoredSet}
use Rattle.range_multimaps.specs.Pairs.{HasNoEmptySet}
use Rattle.range_sets.specs.SetOrder.{same_ranges}
use Rattle.range_json.specs.Shapes.{set_shape, map_shape}
use Rattle.range_json.specs.ValueSets.{values_shape, same_values, IsValueSet}
use Rattle.range_json.specs.Values.{AreRangeValues, AreItemValues}
use Rattle.range_json.specs.declared.error.JsonError.{JsonError}
use Rattle.range_set_json.specs.Faults.{set_fault, IsSetRead}
use Rattle.range_set_json.specs.MultimapFaults.{IsMultimapFault, IsMultimapRead}
pub use Rattle.range_json.specs.Laws.{WrittenRangesHaveNoFault, WrittenRangesAreReadEqual, ReadMapsHaveNoFault, WrittenMapsHaveNoFault, WrittenMapsAreReadEqual}

module _ {K : Type 0} (shape : K → Data) (is_value : K → Type 0) where
  abbrev pub WrittenSetsHaveNoFault : (Data → Bool) → Type 0
  WrittenSetsHaveNoFault reads = (items : List (Item (AnyRange K) (Unit {0})))
      → AreRangeValues is_value items → set_fault reads (set_shape shape items) ≡ None

  module _ (order : KeyOrder K) (is_read : Data → K → Type 0) where
    -- equal as `==` compares sets
    abbrev pub WrittenSetsAreReadEqual : Type 0
    WrittenSetsAreReadEqual = (items others : List (Item (AnyRange K) (Unit {0})))
        → AreRangeValues is_value items → IsStoredSet order items
        → IsSetRead is_read order (set_shape shape items) others
        → IsTrue (same_ranges order others items)

module _ {K V : Type 0} (order : KeyOrder K) (cmp : V → V → Ordering) (same : V → V → Bool)
    (key_reads value_reads : Data → Bool) (key_is_read : Data → K → Type 0)
    (value_is_read : Data → V → Type 0) where
  abbrev HasMultimapFault : Data → JsonError → Type 0
  HasMultimapFault = IsMultimapFault order key_reads value_reads key_is_read value_is_read cmp

  abbrev MultimapIsRead : Data → List (Item (AnyRange K) (BTreeSet V)) → Type 0
  MultimapIsRead = IsMultimapRead order key_reads value_reads key_is_read value_is_read cmp same

  abbrev pub ReadMultimapsHaveNoFault : Type 0
  ReadMultimapsHaveNoFault =
      (d : Data) (items : List (Item (AnyRange K) (BTreeSet V))) (e : JsonError)
      → MultimapIsRead d items → ¬ HasMultimapFault d e

  module _ (key_shape : K → Data) (value_shape : V → Data) (key_is_value : K → Type 0)
      (value_is_value : V → Type 0) where
    abbrev pub WrittenMultimapsHaveNoFault : Type 0
    WrittenMultimapsHaveNoFault = (items : List (Item (AnyRange K) (BTreeSet V)))
        → AreItemValues key_is_value (IsValueSet cmp value_is_value) items
        → HasNoEmptySet IsEmpty items → IsStored order (same_values same) items → (e : JsonError)
        → ¬ HasMultimapFault (map_shape key_shape (values_shape value_shape) items) e

    -- equal as `==` compares multimaps
    abbrev pub WrittenMultimapsAreReadEqual : Type 0
    WrittenMultimapsAreReadEqual = (items others : List (Item (AnyRange K) (BTreeSet V)))
        → AreItemValues key_is_value (IsValueSet cmp value_is_value) items
        → IsStored order (same_values same) items
        → MultimapIsRead (map_shape key_shape (values_shape value_shape) items) others
        → IsTrue (same_list order (same_values same) others items)
