-- The values that addresses have: those of the last lines, or of the longest prefixes.
use Rattle.std.specs.Prelude.{◌≡◌, ◌+◌, ℕ, ◌&&◌, if◌then◌else◌, nat_eq, nat_le, List, [], ◌∷◌, ◌++◌, Option, Some, None}
use Rattle.btree_range_map.specs.AnyRange.{AnyRange}
use Rattle.btree_range_map.specs.Bindings.{Binds}
use Rattle.btree_range_map.specs.Holding.{box_items}
use Rattle.btree_range_map.specs.Item.{Item}
use Rattle.btree_range_map.specs.Order.{KeyOrder}
use Rattle.address_keys.specs.Addresses.{ipv4_at, ipv4_number, ipv4_order, ipv6_at, ipv6_number, ipv6_order}
use Rattle.address_prefixes.specs.Tiles.{all_tiles}
use Rattle.address_tables.specs.Lengths.{over}
use Rattle.address_tables.specs.Tables.{IsTableOf}
use Rattle.address_tables.specs.Tiled.{valued}
use Rattle.address_tables.specs.declared.entries.Entry.{Entry}
use Rattle.address_text.specs.declared.family.Family.{Family}
use Rattle.address_text.specs.declared.family.Family.TheVariants.{V4, V6}
use Rattle.address_table_lists.specs.declared.rows.Binding.{Binding}
use Rattle.address_table_lists.specs.declared.rows.Rows.{Rows}
use Rattle.address_table_lists.specs.declared.table.Precedence.{Precedence}
use Rattle.address_table_lists.specs.declared.table.Precedence.TheVariants.{Last, Longest}
use Rattle.address_table_lists.specs.declared.table.Table.{Table}

module _ {A : Type 0} (number : A → ℕ) where
  -- the value that a binding gives to an address
  abbrev pub given : Binding A → A → Option ℕ
  given b a =
      if nat_le (number b.first) (number a) && nat_le (number a) (number b.last) then Some b.value
      else None

  -- the value that the last binding gives to it
  abbrev pub last_given : List (Binding A) → A → Option ℕ
  last_given [] a = None
  last_given (b ∷ bindings) a = over (given b a) (last_given bindings a)

  module _ (at : ℕ → A) (width : ℕ) where
    -- the widest prefixes of each binding, one after the other, with its value
    abbrev pub tiles_of : List (Binding A) → List (Entry A ℕ)
    tiles_of [] = []
    tiles_of (b ∷ bindings) =
        valued b.value (all_tiles at width (number b.first) (number b.last + 1))
        ++ tiles_of bindings

module _ {A : Type 0} (order : KeyOrder A) (number : A → ℕ) where
  -- each address has the value that the last binding gives to it
  abbrev pub IsMadeLast : List (Item (AnyRange A) ℕ) → List (Binding A) → Type 0
  IsMadeLast items bindings = (a : A) → order.is_key a
      → Binds order nat_eq items a (last_given number bindings a)

  -- each address has the value of the longest prefix of a binding that holds it
  abbrev pub IsMadeLongest : (ℕ → A) → ℕ → List (Item (AnyRange A) ℕ) → List (Binding A) → Type 0
  IsMadeLongest at width items bindings =
      IsTableOf order number nat_eq None items (tiles_of number at width bindings)

-- each address has the value that the bindings give to it
abbrev pub IsMade : Precedence → {A : Type 0} → KeyOrder A → (A → ℕ) → (ℕ → A) → ℕ
    → List (Item (AnyRange A) ℕ) → List (Binding A) → Type 0
IsMade Last order number at width items bindings = IsMadeLast order number items bindings
IsMade Longest order number at width items bindings =
    IsMadeLongest order number at width items bindings

-- so it is in both families
pub record IsMadeOf (precedence : Precedence) (rows : Rows) (table : Table) : Type 0 where
  pub v4 : IsMade precedence ipv4_order ipv4_number ipv4_at 32 (box_items table.v4) rows.v4.items
  pub v6 : IsMade precedence ipv6_order ipv6_number ipv6_at 128 (box_items table.v6) rows.v6.items

-- the table has what the other one has of the family, or of both, and nothing else
abbrev pub IsOfFamily : Option Family → Table → Table → Type 0
IsOfFamily None whole table = table ≡ whole
IsOfFamily (Some V4) whole table = (table.v4 ≡ whole.v4) × (box_items table.v6 ≡ [])
IsOfFamily (Some V6) whole table = (box_items table.v4 ≡ []) × (table.v6 ≡ whole.v6)
