-- What is read of a map's elements of which the last one that holds a key counts.
use Rattle.std.specs.Prelude.{◌≡◌, List, [], Option, Some, Result, Ok, Err, Bool}
use Rattle.std.specs.List.{AllByRecursion, AllZip}
use Rattle.serde_json.specs.Data.{Data}
use Rattle.range_keys.specs.Order.{KeyOrder}
use Rattle.range_algebra.specs.declared.any.AnyRange.{AnyRange}
use Rattle.range_algebra.specs.Range.{IsKeyRange}
use Rattle.range_store.specs.declared.storage.Item.{Item}
use Rattle.range_runs.specs.Stored.{IsStored}
use Rattle.range_map.specs.Extending.{AreBoundAfter}
use Rattle.range_json.specs.Faults.{first_fault}
use Rattle.range_json.specs.declared.error.JsonError.{JsonError}
use Rattle.range_json.specs.MapFaults.{element_fault, map_elements, IsElementRead}

module _ (key_reads value_reads : Data → Bool) where
  abbrev pub fault_of_elements : Result (List Data) JsonError → Option JsonError
  fault_of_elements (Err fault) = Some fault
  fault_of_elements (Ok ds) = first_fault (element_fault key_reads value_reads) 0 ds

  -- the first fault of a map whose elements may meet
  abbrev pub overwriting_fault : Data → Option JsonError
  overwriting_fault d = fault_of_elements (map_elements d)

module _ {K V : Type 0} (order : KeyOrder K) (key_is_read : Data → K → Type 0)
    (value_is_read : Data → V → Type 0) (same_value : V → V → Bool) where
  -- each is read as the item beside it, whose bounds are keys; the list binds each key as the last
  -- item does whose range holds it, and no other key; items in the form of a map are kept one by
  -- one
  pub record IsMapOverwritten (d : Data) (items : List (Item (AnyRange K) V)) : Type 0 where
    pub ds : List Data
    pub elements : List (Item (AnyRange K) V)
    pub whole : map_elements d ≡ Ok ds
    pub read : AllZip (IsElementRead key_is_read value_is_read) ds elements
    pub known : AllByRecursion (λ i. IsKeyRange order i.key) elements
    pub bound : AreBoundAfter order same_value [] items elements
    pub kept : IsStored order same_value elements → items ≡ elements
