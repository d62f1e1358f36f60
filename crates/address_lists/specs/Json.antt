-- A list as JSON, what a JSON text is read as, and why one is not read.
use Rattle.std.specs.Prelude.{◌≡◌, ◌≢◌, ◌<◌, ◌^◌, ℕ, ◌⊎◌, Bool, List, [], length, map, take, Option, Some, None, codes}
use Rattle.std.specs.List.{AllByRecursion, HoldsAt}
use Rattle.std.specs.Str.{IsUtf8}
use Rattle.std.specs.declared.ops.Bound.{Bound}
use Rattle.std.specs.declared.ops.Bound.TheVariants.{Excluded, Included, Unbounded}
use Rattle.serde_json.specs.Data.{Data, array, member, no_members, object}
use Rattle.serde_json.specs.Find.{get}
use Rattle.serde_json.specs.Read.{read}
use Rattle.serde_json.specs.View.{items_of}
use Rattle.serde_json.specs.Written.{compact_text}
use Rattle.btree_range_map.specs.AnyRange.{AnyRange}
use Rattle.btree_range_map.specs.Faults.{IsRangeRead, IsSetRead, range_fault, set_fault}
use Rattle.btree_range_map.specs.Holding.{box_items}
use Rattle.btree_range_map.specs.Item.{Item}
use Rattle.btree_range_map.specs.JsonError.{JsonError}
use Rattle.btree_range_map.specs.Names.{range_inclusive}
use Rattle.btree_range_map.specs.Order.{KeyOrder}
use Rattle.btree_range_map.specs.Shapes.{elements_of, range_shape}
use Rattle.address_keys.specs.Addresses.{ipv4_at, ipv4_number, ipv4_order, ipv6_at, ipv6_number, ipv6_order}
use Rattle.address_keys.specs.Json.{IsIpv4Read, IsIpv6Read, ipv4_shape, ipv6_shape, reads_ipv4, reads_ipv6}
use Rattle.address_prefixes.specs.Runs.{AreRuns}
use Rattle.address_text.specs.Places.{IsPlace}
use Rattle.address_text.specs.declared.family.Family.{Family}
use Rattle.address_text.specs.declared.family.Family.TheVariants.{V4, V6}
use Rattle.address_lists.specs.Lists.{Has}
use Rattle.address_lists.specs.Reading.{MayFail}
use Rattle.address_lists.specs.declared.addresses.Addresses.{Addresses}
use Rattle.address_lists.specs.declared.json.JsonFault.{JsonFault}
use Rattle.address_lists.specs.declared.json.JsonFault.TheVariants.{Members as NoMembers, Reversed, Set, Text}
use Rattle.address_lists.specs.declared.read.ListError.{ListError}
use Rattle.address_lists.specs.declared.read.ListError.TheVariants.{BadLine, Json, Memory, Unread}

-- the member that has the set of a family
abbrev pub member_of : Family → Data → Option Data
member_of V4 d = get (codes "IPv4") d
member_of V6 d = get (codes "IPv6") d

-- the range from the first to the last of some addresses
abbrev pub span_shape : {A : Type 0} → (A → Data) → (ℕ → A) → ℕ × ℕ → Data
span_shape shape at ends = range_shape shape (range_inclusive (at ends.0) (at ends.1))

-- the array of some ranges
abbrev pub runs_shape : {A : Type 0} → (A → Data) → (ℕ → A) → List (ℕ × ℕ) → Data
runs_shape shape at runs = array (items_of (map (span_shape shape at) runs))

-- of the addresses of a family, all ranges, each as wide as it goes, ascending
abbrev pub IsSetShape : Addresses → Family → Data → Type 0
IsSetShape list V4 d = (runs : List (ℕ × ℕ)) × AreRuns (Has list V4) (2 ^ 32) runs
    × (d ≡ runs_shape ipv4_shape ipv4_at runs)
IsSetShape list V6 d = (runs : List (ℕ × ℕ)) × AreRuns (Has list V6) (2 ^ 128) runs
    × (d ≡ runs_shape ipv6_shape ipv6_at runs)

-- an object with the sets of both families
abbrev pub list_shape : Data → Data → Data
list_shape v4 v6 =
    object (member (codes "IPv4") v4 (member (codes "IPv6") v6 no_members))

abbrev pub IsListShape : Addresses → Data → Type 0
IsListShape list d = (v4 : Data) × (v6 : Data) × IsSetShape list V4 v4 × IsSetShape list V6 v6
    × (d ≡ list_shape v4 v6)

-- its text
abbrev pub IsListText : Addresses → List ℕ → Type 0
IsListText list text = (d : Data) × IsListShape list d × (text ≡ compact_text d)

-- the address at which a bound stands
abbrev pub bound_key : {A : Type 0} → Bound A → Option A
bound_key (Included address) = Some address
bound_key (Excluded address) = Some address
bound_key Unbounded = None

-- a range begins above its end
abbrev pub IsReversed : {A : Type 0} → (A → ℕ) → AnyRange A → Type 0
IsReversed {A} number range = (first : A) × (last : A) × (bound_key range.start ≡ Some first)
    × (bound_key range.end ≡ Some last) × (number last < number first)

-- a value is a range that begins above its end
abbrev pub IsReversedValue : {A : Type 0} → (Data → A → Type 0) → (A → ℕ) → Data → Type 0
IsReversedValue {A} is_read number d =
    (range : AnyRange A) × IsRangeRead is_read d range × IsReversed number range

module _ {A : Type 0} (is_read : Data → A → Type 0) (number : A → ℕ) (reads : Data → Bool) where
  -- or is another range, or none
  abbrev pub IsInOrder : Data → Type 0
  IsInOrder d =
      ((range : AnyRange A) × IsRangeRead is_read d range × ¬ IsReversed number range)
      ⊎ (range_fault reads 0 d ≢ None)

  -- this is the index of the first range that begins above its end
  abbrev pub IsFirstReversed : List Data → ℕ → Type 0
  IsFirstReversed ds place = (place < length ds) × AllByRecursion IsInOrder (take place ds)
      × HoldsAt (IsReversedValue is_read number) ds place

  -- no element of a set begins above its end
  abbrev pub AreInOrder : Data → Type 0
  AreInOrder d = (ds : List Data) → elements_of d ≡ Some ds → AllByRecursion IsInOrder ds

  abbrev pub HasReversed : Data → ℕ → Type 0
  HasReversed d place = (ds : List Data) × (elements_of d ≡ Some ds) × IsFirstReversed ds place

  -- why the order of a set is refused
  abbrev pub IsOrderReason : Family → Data → ListError → Type 0
  IsOrderReason family d error = (error ≡ Memory)
      ⊎ ((place : ℕ) × (error ≡ Json (Reversed family place)) × HasReversed d place)

-- a member is read as a set, and none as no addresses
abbrev pub IsMemberRead : {A : Type 0} → (Data → A → Type 0) → (A → ℕ) → (Data → Bool) → KeyOrder A
    → Option Data → List (Item (AnyRange A) (Unit {0})) → Type 0
IsMemberRead is_read number reads order None items = items ≡ []
IsMemberRead is_read number reads order (Some d) items =
    IsSetRead is_read order d items × AreInOrder is_read number reads d

-- one of the members is there, both are read as sets, and the list has these
pub record IsListRead (d : Data) (list : Addresses) : Type 0 where
  pub some : ¬ ((member_of V4 d ≡ None) × (member_of V6 d ≡ None))
  pub read_v4 : IsMemberRead IsIpv4Read ipv4_number reads_ipv4 ipv4_order (member_of V4 d)
      (box_items list.v4)
  pub read_v6 : IsMemberRead IsIpv6Read ipv6_number reads_ipv6 ipv6_order (member_of V6 d)
      (box_items list.v6)

-- the first fault of the set of a family
abbrev pub fault_of_set : Family → Data → Option JsonError
fault_of_set V4 d = set_fault reads_ipv4 d
fault_of_set V6 d = set_fault reads_ipv6 d

-- the set of a family has a range that begins above its end
abbrev pub IsReversedSet : Family → Data → ℕ → Type 0
IsReversedSet V4 d place = HasReversed IsIpv4Read ipv4_number reads_ipv4 d place
IsReversedSet V6 d place = HasReversed IsIpv6Read ipv6_number reads_ipv6 d place

-- what is wrong with a value: neither member is there, or one has this first fault
abbrev pub HasFault : Data → JsonFault → Type 0
HasFault d (Text line column) = ⊥
HasFault d NoMembers = (member_of V4 d ≡ None) × (member_of V6 d ≡ None)
HasFault d (Set family fault) =
    (set : Data) × (member_of family d ≡ Some set) × (fault_of_set family set ≡ Some fault)
HasFault d (Reversed family place) =
    (set : Data) × (member_of family d ≡ Some set) × IsReversedSet family set place

-- why a value is not read as a set of a family
abbrev pub IsSetReason : Family → (Data → Bool) → Data → ListError → Type 0
IsSetReason family reads d error = (error ≡ Memory)
    ⊎ ((fault : JsonError) × (error ≡ Json (Set family fault)) × (set_fault reads d ≡ Some fault))

module _ {A : Type 0} (family : Family) (is_read : Data → A → Type 0) (number : A → ℕ)
    (reads : Data → Bool) where
  -- why the member of a family is not read: there is one, and it is no set, or not in order
  abbrev pub IsMemberReason : Option Data → ListError → Type 0
  IsMemberReason None error = ⊥
  IsMemberReason (Some d) error =
      IsSetReason family reads d error ⊎ IsOrderReason is_read number reads family d error

-- why a value is not read
abbrev pub IsValueReason : Data → ListError → Type 0
IsValueReason d (BadLine line column expected found) = ⊥
IsValueReason d Unread = ⊥
IsValueReason d Memory = MayFail
IsValueReason d (Json fault) = HasFault d fault

-- a text is no JSON
abbrev pub IsNoJson : List ℕ → Type 0
IsNoJson bytes = IsUtf8 bytes → read bytes ≡ None

-- what is wrong with a text: it is no JSON, which a reader sees at a place of it that no contract
-- tells, or its value has a fault
abbrev pub HasJsonFault : List ℕ → JsonFault → Type 0
HasJsonFault bytes (Text line column) = IsNoJson bytes × IsPlace bytes line column
HasJsonFault bytes NoMembers = (d : Data) × (read bytes ≡ Some d) × HasFault d NoMembers
HasJsonFault bytes (Set family fault) =
    (d : Data) × (read bytes ≡ Some d) × HasFault d (Set family fault)
HasJsonFault bytes (Reversed family place) =
    (d : Data) × (read bytes ≡ Some d) × HasFault d (Reversed family place)

-- why a text is not read
abbrev pub IsJsonReason : List ℕ → ListError → Type 0
IsJsonReason bytes (BadLine line column expected found) = ⊥
IsJsonReason bytes Unread = MayFail
IsJsonReason bytes Memory = MayFail
IsJsonReason bytes (Json fault) = HasJsonFault bytes fault

-- a text is read as a list
abbrev pub IsDocument : List ℕ → Addresses → Type 0
IsDocument bytes list = (d : Data) × (read bytes ≡ Some d) × IsListRead d list
