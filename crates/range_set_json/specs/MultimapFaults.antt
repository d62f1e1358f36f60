-- The first fault of a JSON value that is read as a multimap, and what it binds where it has none:
-- those of a map to nonempty sets of values.
use Rattle.std.specs.Prelude.{Bool, List}
use Rattle.std.specs.BTreeSet.{BTreeSet}
use Rattle.std.specs.declared.cmp.Ordering.{Ordering}
use Rattle.serde_json.specs.Data.{Data}
use Rattle.range_keys.specs.Order.{KeyOrder}
use Rattle.range_algebra.specs.declared.any.AnyRange.{AnyRange}
use Rattle.range_store.specs.declared.storage.Item.{Item}
use Rattle.range_json.specs.declared.error.JsonError.{JsonError}
use Rattle.range_json.specs.MapFaults.{IsMapFault, IsMapRead}
use Rattle.range_json.specs.ValueSets.{reads_some_values, same_values, AreValuesRead}

module _ {K V : Type 0} (order : KeyOrder K) (key_reads value_reads : Data → Bool)
    (key_is_read : Data → K → Type 0) (value_is_read : Data → V → Type 0)
    (cmp : V → V → Ordering) where
  -- the first fault of a multimap
  abbrev pub IsMultimapFault : Data → JsonError → Type 0
  IsMultimapFault d f =
      IsMapFault order key_reads (reads_some_values value_reads) key_is_read
      (AreValuesRead cmp value_is_read) d f

  -- each key is bound to the set of the values beside its range, and to no other
  abbrev pub IsMultimapRead : (V → V → Bool) → Data → List (Item (AnyRange K) (BTreeSet V)) → Type 0
  IsMultimapRead same d items =
      IsMapRead order key_reads (reads_some_values value_reads) key_is_read
      (AreValuesRead cmp value_is_read) (same_values same) d items
