-- The first fault of a JSON value that is read as a set, and what is read there; what is said of a
-- range is passed on.
use Rattle.std.specs.Prelude.{◌≡◌, List, map, Option, Some, Bool}
use Rattle.std.specs.List.{AllByRecursion, AllZip}
use Rattle.serde_json.specs.Data.{Data}
use Rattle.range_keys.specs.Order.{KeyOrder}
use Rattle.range_algebra.specs.declared.any.AnyRange.{AnyRange}
use Rattle.range_algebra.specs.Range.{IsKeyRange}
use Rattle.range_sets.specs.KeySets.{HoldsAllOf, IsStoredSet}
use Rattle.range_store.specs.declared.storage.Item.{Item}
use Rattle.range_json.specs.declared.error.JsonError.{JsonError}
use Rattle.range_json.specs.Shapes.{elements_of}
pub use Rattle.range_json.specs.Faults.{before, key_fault, parts_fault, bound_fault, bounds_fault, range_fault, first_fault, array_fault, ArePartsRead, IsBoundRead, IsRangeRead}

-- the first fault of a set
abbrev pub set_fault : (Data → Bool) → Data → Option JsonError
set_fault key_reads d = array_fault (range_fault key_reads) (elements_of d)

-- the items of a set of these ranges
abbrev pub range_items : {K : Type 0} → List (AnyRange K) → List (Item (AnyRange K) (Unit {0}))
range_items ranges = map (λ r. record { key = r; value = tt }) ranges

module _ {K : Type 0} (key_is_read : Data → K → Type 0) where
  -- each is read as the range beside it, whose bounds are keys; the list holds just the keys of
  -- these ranges, and ranges in the form of a set are kept one by one
  pub record IsSetRead (order : KeyOrder K) (d : Data)
      (items : List (Item (AnyRange K) (Unit {0}))) : Type 0 where
    pub ds : List Data
    pub ranges : List (AnyRange K)
    pub whole : elements_of d ≡ Some ds
    pub read : AllZip (IsRangeRead key_is_read) ds ranges
    pub known : AllByRecursion (λ r. IsKeyRange order r) ranges
    pub held : HoldsAllOf order items ranges
    pub kept : IsStoredSet order (range_items ranges) → items ≡ range_items ranges
