-- A table as it is printed: its ranges, or prefixes that route as it does.
use Rattle.std.specs.Prelude.{◌≡◌, ℕ, nat_eq, List, [], ◌++◌, Option, None, get_or, map}
use Rattle.btree_range_map.specs.AnyRange.{AnyRange}
use Rattle.btree_range_map.specs.Canonical.{IsCanonical}
use Rattle.btree_range_map.specs.Holding.{box_items}
use Rattle.btree_range_map.specs.Item.{Item}
use Rattle.btree_range_map.specs.Order.{KeyOrder}
use Rattle.address_keys.specs.Addresses.{ipv4_number, ipv4_order, ipv6_number, ipv6_order}
use Rattle.address_keys.specs.declared.ipv4.Ipv4.{Ipv4}
use Rattle.address_keys.specs.declared.ipv6.Ipv6.{Ipv6}
use Rattle.address_tables.specs.Tables.{AreAscending, ArePrefixes, IsShortest, IsShortestApart, IsTableOf}
use Rattle.address_tables.specs.declared.entries.Entry.{Entry}
use Rattle.address_text.specs.declared.family.Family.{Family}
use Rattle.address_text.specs.declared.family.Family.TheVariants.{V4, V6}
use Rattle.address_table_lists.specs.Blocks.{prefix_block, range_block}
use Rattle.address_rows.specs.Forms.{block_line, value_text}
use Rattle.address_table_lists.specs.Framed.{IsFramed}
use Rattle.address_rows.specs.declared.forms.Form.{Form}
use Rattle.address_table_lists.specs.declared.print.Defaults.{Defaults}
use Rattle.address_table_lists.specs.declared.print.Shape.{Shape}
use Rattle.address_table_lists.specs.declared.print.Shape.TheVariants.{Disjoint, Ranges, Shortest}
use Rattle.address_table_lists.specs.declared.table.Table.{Table}

module _ {A : Type 0} (form : Form) (family : Family) (number : A → ℕ) where
  -- the line of a range of a table, with its value of these texts
  abbrev pub IsItemLine : ℕ → List (List ℕ) → Item (AnyRange A) ℕ → List ℕ → Type 0
  IsItemLine width values i line =
      line ≡ block_line form family (range_block number width i.key) (get_or values i.value [])

  -- the line of a prefix
  abbrev pub IsEntryLine : List (List ℕ) → Entry A ℕ → List ℕ → Type 0
  IsEntryLine values e line =
      line ≡ block_line form family (prefix_block number e.prefix) (get_or values e.value [])

-- the ranges of a table, as wide as they go: those of IPv4, and then those of IPv6
pub record IsPrintedTable (form : Form) (values : List (List ℕ)) (table : Table)
    (text : List ℕ) : Type 0 where
  pub first : List ℕ
  pub second : List ℕ
  pub v4 : IsFramed form V4 (IsItemLine form V4 ipv4_number 32 values) (box_items table.v4) first
  pub v6 : IsFramed form V6 (IsItemLine form V6 ipv6_number 128 values) (box_items table.v6) second
  pub canonical_v4 : IsCanonical ipv4_order nat_eq (box_items table.v4)
  pub canonical_v6 : IsCanonical ipv6_order nat_eq (box_items table.v6)
  pub is : text ≡ first ++ second

-- the lines of prefixes: those of IPv4, and then those of IPv6
pub record ArePrefixLines (form : Form) (values : List (List ℕ)) (v4 : List (Entry Ipv4 ℕ))
    (v6 : List (Entry Ipv6 ℕ)) (text : List ℕ) : Type 0 where
  pub first : List ℕ
  pub second : List ℕ
  pub first_lines : IsFramed form V4 (IsEntryLine form V4 ipv4_number values) v4 first
  pub second_lines : IsFramed form V6 (IsEntryLine form V6 ipv6_number values) v6 second
  pub is : text ≡ first ++ second

module _ {A : Type 0} (order : KeyOrder A) (number : A → ℕ) (width : ℕ)
    (items : List (Item (AnyRange A) ℕ)) where
  -- prefixes that are the table: no two overlap, they ascend, and no such list is shorter
  pub record IsDisjointTable (entries : List (Entry A ℕ)) : Type 0 where
    pub prefixes : ArePrefixes number width entries
    pub routes : IsTableOf order number nat_eq None items entries
    pub ascending : AreAscending number entries
    pub shortest : IsShortestApart order number nat_eq None items width entries

  -- prefixes that route each address to its value, or to the default; no such table is shorter
  pub record IsShortestTable (default : Option ℕ) (entries : List (Entry A ℕ)) : Type 0 where
    pub prefixes : ArePrefixes number width entries
    pub routes : IsTableOf order number nat_eq default items entries
    pub shortest : IsShortest order number nat_eq default items width entries

abbrev pub AreDisjoint : Table → List (Entry Ipv4 ℕ) → List (Entry Ipv6 ℕ) → Type 0
AreDisjoint table v4 v6 = IsDisjointTable ipv4_order ipv4_number 32 (box_items table.v4) v4
    × IsDisjointTable ipv6_order ipv6_number 128 (box_items table.v6) v6

abbrev pub AreShortest : Defaults → Table → List (Entry Ipv4 ℕ) → List (Entry Ipv6 ℕ) → Type 0
AreShortest defaults table v4 v6 =
    IsShortestTable ipv4_order ipv4_number 32 (box_items table.v4) defaults.v4 v4
    × IsShortestTable ipv6_order ipv6_number 128 (box_items table.v6) defaults.v6 v6

-- the lines of the disjoint prefixes of a table
abbrev pub IsPrintedDisjoint : Form → List (List ℕ) → Table → List ℕ → Type 0
IsPrintedDisjoint form values table text = (v4 : List (Entry Ipv4 ℕ)) × (v6 : List (Entry Ipv6 ℕ))
    × AreDisjoint table v4 v6 × ArePrefixLines form values v4 v6 text

-- the lines of its shortest table of prefixes
abbrev pub IsPrintedShortest : Form → List (List ℕ) → Defaults → Table → List ℕ → Type 0
IsPrintedShortest form values defaults table text =
    (v4 : List (Entry Ipv4 ℕ)) × (v6 : List (Entry Ipv6 ℕ))
    × AreShortest defaults table v4 v6 × ArePrefixLines form values v4 v6 text

-- a table in this shape and form, whose values have these texts
abbrev pub IsShown : Shape → Form → List (List ℕ) → Table → List ℕ → Type 0
IsShown Ranges form texts table text =
    IsPrintedTable form (map (value_text form) texts) table text
IsShown Disjoint form texts table text =
    IsPrintedDisjoint form (map (value_text form) texts) table text
IsShown (Shortest defaults) form texts table text =
    IsPrintedShortest form (map (value_text form) texts) defaults table text
