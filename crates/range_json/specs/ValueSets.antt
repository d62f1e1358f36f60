-- A set of values as a JSON array: what it is written as, which arrays are read, and what is read
-- there.
use Rattle.std.specs.Prelude.{◌≡◌, List, [], ◌∷◌, map, Option, Some, None, Bool, false}
use Rattle.std.specs.BTreeSet.{BTreeSet, IsOrdered, IsFromIterResult}
use Rattle.std.specs.Cmp.Lexicographic.{pointwise}
use Rattle.std.specs.List.{AllByRecursion, AllZip, list_all}
use Rattle.std.specs.declared.cmp.Ordering.{Ordering}
use Rattle.serde_json.specs.Data.{Data, array}
use Rattle.serde_json.specs.View.{items_of}
use Rattle.range_json.specs.Shapes.{elements_of}

module _ (value_reads : Data → Bool) where
  abbrev pub reads_all : Option (List Data) → Bool
  reads_all None = false
  reads_all (Some ds) = list_all value_reads ds

  -- an array whose elements are all read as values
  abbrev pub reads_values : Data → Bool
  reads_values d = reads_all (elements_of d)

  abbrev pub reads_some : Option (List Data) → Bool
  reads_some None = false
  reads_some (Some []) = false
  reads_some (Some (d ∷ ds)) = list_all value_reads (d ∷ ds)

  -- such an array that is not empty
  abbrev pub reads_some_values : Data → Bool
  reads_some_values d = reads_some (elements_of d)

module _ {V : Type 0} where
  -- the array of the values, in ascending order
  abbrev pub values_shape : (V → Data) → BTreeSet V → Data
  values_shape value_shape s = array (items_of (map value_shape s.keys))

  -- whether the sets have equal values
  abbrev pub same_values : (V → V → Bool) → BTreeSet V → BTreeSet V → Bool
  same_values same s t = pointwise same s.keys t.keys

  -- a sorted set of values that the type really has
  abbrev pub IsValueSet : (V → V → Ordering) → (V → Type 0) → BTreeSet V → Type 0
  IsValueSet cmp is_value s = IsOrdered cmp s × AllByRecursion is_value s.keys

  -- each element is read as the value beside it, and the set has just these values
  pub record AreValuesRead (cmp : V → V → Ordering) (value_is_read : Data → V → Type 0) (d : Data)
      (s : BTreeSet V) : Type 0 where
    pub ds : List Data
    pub values : List V
    pub whole : elements_of d ≡ Some ds
    pub read : AllZip value_is_read ds values
    pub set : IsFromIterResult cmp values s
