-- What the laws say: what is written has no fault, and what is read there equals it.
use Rattle.std.specs.Prelude.{◌≡◌, List, None, Bool, IsTrue}
use Rattle.std.specs.declared.cmp.Ordering.TheVariants.{Equal}
use Rattle.serde_json.specs.Data.{Data}
use Rattle.range_keys.specs.Order.{KeyOrder}
use Rattle.range_algebra.specs.declared.any.AnyRange.{AnyRange}
use Rattle.range_algebra.specs.RangeOrder.{range_cmp}
use Rattle.range_store.specs.declared.storage.Item.{Item}
use Rattle.range_reads.specs.ListOrder.{same_list}
use Rattle.range_runs.specs.Stored.{IsStored}
use Rattle.range_json.specs.Shapes.{range_shape, map_shape}
use Rattle.range_json.specs.Faults.{range_fault, IsRangeRead}
use Rattle.range_json.specs.MapFaults.{IsMapFault, IsMapRead}
use Rattle.range_json.specs.Values.{IsRangeValue, AreItemValues}
use Rattle.range_json.specs.declared.error.JsonError.{JsonError}

module _ {K : Type 0} (shape : K → Data) (is_value : K → Type 0) where
  abbrev pub WrittenRangesHaveNoFault : (Data → Bool) → Type 0
  WrittenRangesHaveNoFault reads = (r : AnyRange K) → IsRangeValue is_value r
      → range_fault reads 0 (range_shape shape r) ≡ None

  module _ (order : KeyOrder K) (is_read : Data → K → Type 0) where
    -- equal as ranges are compared
    abbrev pub WrittenRangesAreReadEqual : Type 0
    WrittenRangesAreReadEqual = (r s : AnyRange K) → IsRangeValue is_value r
        → IsRangeRead is_read (range_shape shape r) s → range_cmp order r s ≡ Equal

module _ {K V : Type 0} (order : KeyOrder K) (same : V → V → Bool)
    (key_reads value_reads : Data → Bool)
    (key_is_read : Data → K → Type 0) (value_is_read : Data → V → Type 0) where
  abbrev HasMapFault : Data → JsonError → Type 0
  HasMapFault = IsMapFault order key_reads value_reads key_is_read value_is_read

  abbrev MapIsRead : Data → List (Item (AnyRange K) V) → Type 0
  MapIsRead = IsMapRead order key_reads value_reads key_is_read value_is_read same

  abbrev pub ReadMapsHaveNoFault : Type 0
  ReadMapsHaveNoFault = (d : Data) (items : List (Item (AnyRange K) V)) (e : JsonError)
      → MapIsRead d items → ¬ HasMapFault d e

  module _ (key_shape : K → Data) (value_shape : V → Data) (key_is_value : K → Type 0)
      (value_is_value : V → Type 0) where
    abbrev pub WrittenMapsHaveNoFault : Type 0
    WrittenMapsHaveNoFault = (items : List (Item (AnyRange K) V))
        → AreItemValues key_is_value value_is_value items → IsStored order same items
        → (e : JsonError) → ¬ HasMapFault (map_shape key_shape value_shape items) e

    -- equal as `==` compares maps
    abbrev pub WrittenMapsAreReadEqual : Type 0
    WrittenMapsAreReadEqual = (items others : List (Item (AnyRange K) V))
        → AreItemValues key_is_value value_is_value items → IsStored order same items
        → MapIsRead (map_shape key_shape value_shape items) others
        → IsTrue (same_list order same others items)
