-- A table and a list of addresses together.
use Rattle.std.specs.Prelude.{ℕ, ◌↔◌, ◌⊎◌, ◌==◌, Bool, IsTrue, nat_eq, List}
use Rattle.std.specs.List.{list_any}
use Rattle.btree_range_map.specs.AnyRange.{AnyRange}
use Rattle.btree_range_map.specs.Bindings.{IsStoredFor}
use Rattle.btree_range_map.specs.Holding.{box_items}
use Rattle.btree_range_map.specs.Item.{Item}
use Rattle.btree_range_map.specs.KeySets.{HoldsKey}
use Rattle.btree_range_map.specs.Order.{KeyOrder}
use Rattle.btree_range_map.specs.Range.{Holds}
use Rattle.btree_range_map.specs.Overlays.{IsRestricted, IsWithout}
use Rattle.address_keys.specs.Addresses.{ipv4_order, ipv6_order}
use Rattle.address_lists.specs.declared.addresses.Addresses.{Addresses}
use Rattle.address_table_lists.specs.declared.table.Table.{Table}

-- just the addresses of the list have a value, and the one that they had
pub record AreOnly (before : Table) (list : Addresses) (after : Table) : Type 0 where
  pub v4 : IsRestricted ipv4_order nat_eq (box_items before.v4) (box_items list.v4)
      (box_items after.v4)
  pub v6 : IsRestricted ipv6_order nat_eq (box_items before.v6) (box_items list.v6)
      (box_items after.v6)

-- just the other addresses have a value, and the one that they had
pub record AreAllBut (before : Table) (list : Addresses) (after : Table) : Type 0 where
  pub v4 : IsWithout ipv4_order nat_eq (box_items before.v4) (box_items list.v4)
      (box_items after.v4)
  pub v6 : IsWithout ipv6_order nat_eq (box_items before.v6) (box_items list.v6)
      (box_items after.v6)

-- one of the numbers is this
abbrev pub is_among : List ℕ → ℕ → Bool
is_among numbers n = list_any (λ m. m == n) numbers

module _ {A : Type 0} (order : KeyOrder A) where
  -- the addresses of the range are added to a set, or none where that is not so
  abbrev pub AreAddedIf : Bool → AnyRange A → List (Item (AnyRange A) (Unit {0}))
      → List (Item (AnyRange A) (Unit {0})) → Type 0
  AreAddedIf is_so range before after = (a : A) → order.is_key a → HoldsKey order after a
      ↔ (HoldsKey order before a ⊎ (IsTrue is_so × Holds order range a))

  -- the address has one of the values
  abbrev pub HasOneOf : List ℕ → List (Item (AnyRange A) ℕ) → A → Type 0
  HasOneOf values items a =
      (value : ℕ) × IsTrue (is_among values value) × IsStoredFor order items a value

  -- the set holds just the addresses that have one of the values
  abbrev pub HaveValue : List (Item (AnyRange A) ℕ) → List ℕ
      → List (Item (AnyRange A) (Unit {0})) → Type 0
  HaveValue items values set = (a : A) → order.is_key a → HoldsKey order set a
      ↔ HasOneOf values items a

-- so it is in both families
pub record IsSelected (table : Table) (values : List ℕ) (list : Addresses) : Type 0 where
  pub v4 : HaveValue ipv4_order (box_items table.v4) values (box_items list.v4)
  pub v6 : HaveValue ipv6_order (box_items table.v6) values (box_items list.v6)
