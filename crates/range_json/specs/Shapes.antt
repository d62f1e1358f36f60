-- What a range and a list of stored ranges are written as, and which parts a JSON value of that
-- shape has.
use Rattle.std.specs.Prelude.{ℕ, List, [], ◌∷◌, map, Option, Some, None, if◌then◌else◌, codes, bytes_eq}
use Rattle.std.specs.declared.ops.Bound.{Bound}
use Rattle.std.specs.declared.ops.Bound.TheVariants.{Included, Excluded, Unbounded}
use Rattle.serde_json.specs.Data.{Data, null, boolean, number, string, array, object, unsigned, Items, no_items, item, Members, no_members, member}
use Rattle.serde_json.specs.View.{items_of}
pub use Rattle.json_trees.specs.LookUps.{alone, only_member_of}
use Rattle.range_algebra.specs.declared.any.AnyRange.{AnyRange}
use Rattle.range_reads.specs.FreeRanges.{item_ranges}
use Rattle.range_store.specs.declared.storage.Item.{Item}

-- an array of two
abbrev pub pair_shape : Data → Data → Data
pair_shape d e = array (item d (item e no_items))

-- an object whose members are the list and the number 2
abbrev pub versioned_shape : List Data → Data
versioned_shape ds =
    object (member (codes "items") (array (items_of ds))
    (member (codes "version") (number (unsigned 2)) no_members))

module _ {K : Type 0} (key_shape : K → Data) where
  abbrev pub bound_shape : Bound K → Data
  bound_shape (Included k) = object (member (codes "Included") (key_shape k) no_members)
  bound_shape (Excluded k) = object (member (codes "Excluded") (key_shape k) no_members)
  bound_shape Unbounded = string (codes "Unbounded")

  abbrev pub range_shape : AnyRange K → Data
  range_shape r = pair_shape (bound_shape r.start) (bound_shape r.end)

  abbrev pub set_shape : List (Item (AnyRange K) (Unit {0})) → Data
  set_shape items = array (items_of (map range_shape (item_ranges items)))

  -- the pairs of each range and its value
  abbrev pub map_shape : {V : Type 0} → (V → Data) → List (Item (AnyRange K) V) → Data
  map_shape value_shape items =
      versioned_shape (map (λ i. pair_shape (range_shape i.key) (value_shape i.value)) items)

-- the two elements of an array of two
abbrev pub pair_of_items : Items → Option (Data × Data)
pair_of_items no_items = None
pair_of_items (item d no_items) = None
pair_of_items (item d (item e no_items)) = Some (d, e)
pair_of_items (item d (item e (item f more))) = None

abbrev pub pair_of : Data → Option (Data × Data)
pair_of null = None
pair_of (boolean b) = None
pair_of (number n) = None
pair_of (string s) = None
pair_of (array ds) = pair_of_items ds
pair_of (object ms) = None

abbrev pub named_bound : Option (List ℕ × Data) → Option (Bound Data)
named_bound None = None
named_bound (Some m) =
    if bytes_eq m.0 (codes "Included") then Some
    (Included m.1) else (if bytes_eq m.0 (codes "Excluded") then Some (Excluded m.1) else None)

-- the bound, with the JSON value of its key
abbrev pub bound_of : Data → Option (Bound Data)
bound_of null = None
bound_of (boolean b) = None
bound_of (number n) = None
bound_of (string s) = if bytes_eq s (codes "Unbounded") then Some Unbounded else None
bound_of (array ds) = None
bound_of (object ms) = named_bound (alone ms)

abbrev pub list_of : Items → List Data
list_of no_items = []
list_of (item d ds) = d ∷ list_of ds

-- the elements of an array
abbrev pub elements_of : Data → Option (List Data)
elements_of null = None
elements_of (boolean b) = None
elements_of (number n) = None
elements_of (string s) = None
elements_of (array ds) = Some (list_of ds)
elements_of (object ms) = None
