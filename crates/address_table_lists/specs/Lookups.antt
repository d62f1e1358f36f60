-- The values of addresses.
use Rattle.std.specs.Prelude.{◌≡◌, ℕ, ◌^◌, ◌<◌, List, [], ◌∷◌, ◌++◌, Option, None, Some, codes, get_or}
use Rattle.std.specs.Net.Text.{ip_text}
use Rattle.std.specs.declared.net.ip_addr.IpAddr.{IpAddr}
use Rattle.std.specs.declared.net.ip_addr.IpAddr.TheVariants as Ip
use Rattle.std.specs.Net.Addr.{ipv4_bits, ipv6_bits}
use Rattle.btree_range_map.specs.AnyRange.{AnyRange}
use Rattle.btree_range_map.specs.Bindings.{IsBound, IsItemFor}
use Rattle.btree_range_map.specs.Holding.{box_items}
use Rattle.btree_range_map.specs.Item.{Item}
use Rattle.btree_range_map.specs.Order.{KeyOrder}
use Rattle.address_keys.specs.Addresses.{ipv4_at, ipv4_number, ipv4_order, ipv6_at, ipv6_number, ipv6_order}
use Rattle.address_lists.specs.Lookups.{ip_family}
use Rattle.address_prefixes.specs.Spans.{span}
use Rattle.address_text.specs.Texts.{width}
use Rattle.address_text.specs.declared.family.Family.{Family}
use Rattle.address_rows.specs.Forms.{block_line}
use Rattle.address_rows.specs.declared.forms.Form.TheVariants.{Lines}
use Rattle.address_table_lists.specs.declared.lookup.Stored.{Stored}
use Rattle.address_table_lists.specs.declared.table.Table.{Table}
use Rattle.address_rows.specs.declared.write.Block.TheVariants.{Range}

module _ {A : Type 0} (order : KeyOrder A) (number : A → ℕ) (width : ℕ)
    (items : List (Item (AnyRange A) ℕ)) (address : A) where
  -- an item of the table holds the address, and has these ends and this value
  pub record IsStored (stored : Stored) : Type 0 where
    pub item : Item (AnyRange A) ℕ
    pub holds : IsItemFor order items address item
    pub first : stored.first ≡ (span number width item.key).0
    pub last : stored.last ≡ (span number width item.key).1
    pub value : stored.value ≡ item.value
    pub first_fits : stored.first < 2 ^ width
    pub last_fits : stored.last < 2 ^ width

  -- such an item, or there is none
  abbrev pub IsStoredAround : Option Stored → Type 0
  IsStoredAround None = ¬ IsBound order items address
  IsStoredAround (Some stored) = IsStored stored

-- the address has a value
abbrev pub HasValue : Table → IpAddr → Type 0
HasValue table (Ip.V4 address) =
    IsBound ipv4_order (box_items table.v4) (ipv4_at (ipv4_bits address))
HasValue table (Ip.V6 address) =
    IsBound ipv6_order (box_items table.v6) (ipv6_at (ipv6_bits address))

-- the stored range of the table that holds the address, if one does
abbrev pub IsFoundIn : Table → IpAddr → Option Stored → Type 0
IsFoundIn table (Ip.V4 address) stored =
    IsStoredAround ipv4_order ipv4_number 32 (box_items table.v4) (ipv4_at (ipv4_bits address)) stored
IsFoundIn table (Ip.V6 address) stored =
    IsStoredAround ipv6_order ipv6_number 128 (box_items table.v6) (ipv6_at (ipv6_bits address))
    stored

-- its ends are addresses
abbrev pub FitIn : Family → Option Stored → Type 0
FitIn family None = Unit {0}
FitIn family (Some stored) = (stored.first < 2 ^ width family) × (stored.last < 2 ^ width family)

-- `address first-last value`, or `address -` where there is none
abbrev pub value_line : List (List ℕ) → IpAddr → Option Stored → List ℕ
value_line values address None = ip_text address ++ codes " -" ++ 10 ∷ []
value_line values address (Some stored) = (ip_text address ++ codes " ")
    ++ block_line Lines (ip_family address) (Range stored.first stored.last)
    (get_or values stored.value [])

-- the line that tells the value of the address
abbrev pub IsValueLine : List (List ℕ) → Table → IpAddr → List ℕ → Type 0
IsValueLine values table address line =
    (stored : Option Stored) × IsFoundIn table address stored
    × (line ≡ value_line values address stored)
