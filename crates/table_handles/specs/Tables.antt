-- What is promised of tables of prefixes that cross to C.
use Rattle.std.specs.Prelude.{ℕ, ◌<◌, List, None, nat_eq}
use Rattle.std.specs.List.{AllZip}
use Rattle.address_keys.specs.Addresses.{ipv6_number, ipv6_order}
use Rattle.address_keys.specs.declared.ipv6.Ipv6.{Ipv6}
use Rattle.address_tables.specs.declared.entries.Entry.{Entry}
use Rattle.address_tables.specs.Tables.{ArePrefixes, IsShortest, IsTableOf}
use Rattle.btree_range_map.specs.Intervals.{Any}
use Rattle.range_handles.specs.Lists.{WideRanges}
use Rattle.table_handles.specs.Prefixes.{IsMeant}
use Rattle.table_handles.specs.declared.prefix.WidePrefix.{WidePrefix}

-- prefixes of which the longest gives each key its value, and a key without one none
abbrev pub Routes : WideRanges → List (Entry Ipv6 ℕ) → Type 0
Routes items table = IsTableOf ipv6_order ipv6_number nat_eq None items table

-- no table of prefixes that routes alike is shorter
pub record IsShortestTable (items : WideRanges) (table : List (Entry Ipv6 ℕ)) : Type 0 where
  pub prefixes : ArePrefixes ipv6_number 128 table
  pub routes : Routes items table
  pub shortest : IsShortest ipv6_order ipv6_number nat_eq None items 128 table

-- each key has the value of the longest prefix that holds it, of equal ones the last
abbrev pub IsMapOf : List WidePrefix → WideRanges → Type 0
IsMapOf prefixes items = (table : List (Entry Ipv6 ℕ)) × AllZip IsMeant prefixes table
    × Routes items table

-- a prefix has more bits than a key
abbrev pub HasLongPrefix : List WidePrefix → Type 0
HasLongPrefix prefixes = Any (λ p. 128 < p.length) prefixes
