-- The first fault of a JSON value that is read as a map, in either shape, and what it binds where
-- it has none.
use Rattle.std.specs.Prelude.{◌≡◌, ℕ, List, [], ◌∷◌, ◌++◌, length, Option, Some, None, Result, Ok, Err, Bool, true, false, ◌==◌, ◌&&◌, if◌then◌else◌, option_and_then, codes, ◌⊎◌, ⊤}
use Rattle.std.specs.List.{AllByRecursion, AllZip}
use Rattle.std.specs.declared.cmp.Ordering.TheVariants.{Equal}
use Rattle.serde_json.specs.Data.{Data, null, boolean, number, string, array, object, Members}
use Rattle.serde_json.specs.Find.{get_member, as_number, as_u64}
use Rattle.json_trees.specs.LookUps.{are_named}
use Rattle.range_keys.specs.Order.{KeyOrder}
use Rattle.range_algebra.specs.declared.any.AnyRange.{AnyRange}
use Rattle.range_algebra.specs.Intervals.{Any}
use Rattle.range_algebra.specs.Range.{IsEmptyRange, IsKeyRange}
use Rattle.range_store.specs.declared.storage.Item.{Item}
use Rattle.range_runs.specs.Bindings.{BindAlike}
use Rattle.range_runs.specs.Lookups.{Overlap}
use Rattle.range_runs.specs.Stored.{IsStored}
use Rattle.range_json.specs.declared.error.JsonError.{JsonError}
use Rattle.range_json.specs.Faults.{before, range_fault, first_fault, IsRangeRead}
use Rattle.range_json.specs.Shapes.{pair_of, elements_of, list_of}
use Rattle.range_json.specs.declared.error.JsonError.TheVariants.{Meets, NotArray, NotPair, Value, Version}

-- each member is named `version` or `items`
abbrev pub are_known : Members → Bool
are_known ms = are_named (codes "version") (codes "items") ms

abbrev pub is_two : Option ℕ → Bool
is_two None = false
is_two (Some n) = n == 2

-- the member `version` is the whole number 2, and no member but it and `items` is there
abbrev pub is_version_2 : Members → Bool
is_version_2 ms =
    is_two (option_and_then as_u64 (option_and_then as_number (get_member (codes "version") ms)))
    && are_known ms

abbrev pub or_no_array : Option (List Data) → Result (List Data) JsonError
or_no_array None = Err NotArray
or_no_array (Some ds) = Ok ds

-- the elements of a map, or the fault of the whole
abbrev pub map_elements : Data → Result (List Data) JsonError
map_elements null = Err NotArray
map_elements (boolean b) = Err NotArray
map_elements (number n) = Err NotArray
map_elements (string s) = Err NotArray
map_elements (array ds) = Ok (list_of ds)
map_elements (object ms) =
    if is_version_2 ms then or_no_array
    (option_and_then elements_of (get_member (codes "items") ms)) else Err Version

abbrev pub value_fault : (Data → Bool) → ℕ → Data → Option JsonError
value_fault value_reads i d = if value_reads d then None else Some (Value i)

module _ (key_reads value_reads : Data → Bool) where
  abbrev pub pair_fault : ℕ → Option (Data × Data) → Option JsonError
  pair_fault i None = Some (NotPair i)
  pair_fault i (Some p) = before (range_fault key_reads i p.0) (value_fault value_reads i p.1)

  -- the first fault of the element at i that is seen without the earlier elements
  abbrev pub element_fault : ℕ → Data → Option JsonError
  element_fault i d = pair_fault i (pair_of d)

-- no JSON value is read as two unequal keys
abbrev pub HasOneReading : {K : Type 0} → KeyOrder K → (Data → K → Type 0) → Type 0
HasOneReading {K} order key_is_read = (d : Data) (x y : K) → key_is_read d x → key_is_read d y
    → order.cmp x y ≡ Equal

-- both ranges are nonempty, and they meet
abbrev pub MeetNonempty : {K : Type 0} → KeyOrder K → AnyRange K → AnyRange K → Type 0
MeetNonempty order r s = (¬ IsEmptyRange order r) × (¬ IsEmptyRange order s) × Overlap order r s

module _ {K V : Type 0} where
  -- the pair of the range and the value in the array
  abbrev pub IsElementRead : (Data → K → Type 0) → (Data → V → Type 0) → Data → Item (AnyRange K) V
      → Type 0
  IsElementRead key_is_read value_is_read d x =
      (ds : Data × Data) × (pair_of d ≡ Some ds) × IsRangeRead key_is_read ds.0 x.key
      × value_is_read ds.1 x.value

  -- the range meets that of some item
  abbrev pub MeetsOne : KeyOrder K → AnyRange K → List (Item (AnyRange K) V) → Type 0
  MeetsOne order r items = Any (λ i. MeetNonempty order i.key r) items

  -- no two ranges meet
  abbrev pub AreApart : KeyOrder K → List (Item (AnyRange K) V) → Type 0
  AreApart order [] = ⊤
  AreApart order (i ∷ items) = (¬ MeetsOne order i.key items) × AreApart order items

  module _ (order : KeyOrder K) (key_reads value_reads : Data → Bool)
      (key_is_read : Data → K → Type 0) (value_is_read : Data → V → Type 0) where
    -- no element has a fault, and each is read as the item beside it, whose bounds are keys
    pub record AreRead (ds : List Data) (items : List (Item (AnyRange K) V)) : Type 0 where
      pub sound : first_fault (element_fault key_reads value_reads) 0 ds ≡ None
      pub read : AllZip (IsElementRead key_is_read value_is_read) ds items
      pub known : AllByRecursion (λ i. IsKeyRange order i.key) items
      pub apart : AreApart order items

    -- it has no fault of its own, and its range meets that of an earlier item
    abbrev pub MeetsEarlier : ℕ → Data → List (Item (AnyRange K) V) → Type 0
    MeetsEarlier i d earlier =
        (element_fault key_reads value_reads i d ≡ None)
        × ((x : Item (AnyRange K) V) × IsElementRead key_is_read value_is_read d x
        × IsKeyRange order x.key × MeetsOne order x.key earlier)

    -- the fault of the first element that has one
    pub record IsFirstFault (ds : List Data) (f : JsonError) : Type 0 where
      pub front : List Data
      pub d : Data
      pub rest : List Data
      pub earlier : List (Item (AnyRange K) V)
      pub split : ds ≡ front ++ d ∷ rest
      pub fine : AreRead front earlier
      pub fault : (element_fault key_reads value_reads (length front) d ≡ Some f) ⊎
          (MeetsEarlier (length front) d earlier × (f ≡ Meets (length front)))

    abbrev pub IsFaultOf : Result (List Data) JsonError → JsonError → Type 0
    IsFaultOf (Err e) f = f ≡ e
    IsFaultOf (Ok ds) f = IsFirstFault ds f

    -- the first fault of a map
    abbrev pub IsMapFault : Data → JsonError → Type 0
    IsMapFault d e = IsFaultOf (map_elements d) e

    -- the value has no fault; the list binds each key as the element does whose range holds it, and
    -- no other key; elements in the form of a map are kept one by one
    pub record IsMapRead (same_value : V → V → Bool) (d : Data)
        (items : List (Item (AnyRange K) V)) : Type 0 where
      pub ds : List Data
      pub elements : List (Item (AnyRange K) V)
      pub whole : map_elements d ≡ Ok ds
      pub read : AreRead ds elements
      pub bound : BindAlike order same_value items elements
      pub kept : IsStored order same_value elements → items ≡ elements
