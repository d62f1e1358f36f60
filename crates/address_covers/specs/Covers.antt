-- Sets that have all addresses of another, and few prefixes.
use Rattle.std.specs.Prelude.{◌≡◌, ℕ, ◌+◌, ◌≤◌, List, length}
use Rattle.std.specs.List.{AllByRecursion}
use Rattle.btree_range_map.specs.AnyRange.{AnyRange}
use Rattle.btree_range_map.specs.Item.{Item}
use Rattle.btree_range_map.specs.KeySets.{HoldsKey}
use Rattle.btree_range_map.specs.Numbers.{IsNumberOfKeys}
use Rattle.btree_range_map.specs.Order.{KeyOrder}
use Rattle.address_prefixes.specs.Prefixes.{HaveJust, IsPrefix, SomeHasAddress}
use Rattle.address_prefixes.specs.declared.prefix.Prefix.{Prefix}

module _ {A : Type 0} (number : A → ℕ) (order : KeyOrder A) (width most : ℕ) where
  -- at most so many prefixes have just the addresses of the ranges
  abbrev pub HaveAtMost : List (AnyRange A) → Type 0
  HaveAtMost ranges = (prefixes : List (Prefix A)) × AllByRecursion (IsPrefix number width) prefixes
      × HaveJust number order prefixes ranges × (length prefixes ≤ most)

  -- the prefixes have each address of a set, and maybe others
  abbrev pub HaveAll : List (Prefix A) → List (Item (AnyRange A) (Unit {0})) → Type 0
  HaveAll prefixes items = (a : A) → order.is_key a → HoldsKey order items a
      → SomeHasAddress number prefixes a

  -- no list of at most so many prefixes that have all addresses of the one set has fewer addresses
  -- than the other
  abbrev pub AreLeast : List (Item (AnyRange A) (Unit {0})) → List (Item (AnyRange A) (Unit {0}))
      → Type 0
  AreLeast items cover = (others : List (Prefix A)) → AllByRecursion (IsPrefix number width) others
      → length others ≤ most → HaveAll others items
      → (n m : ℕ) → IsNumberOfKeys order (HoldsKey order cover) n
      → IsNumberOfKeys order (SomeHasAddress number others) m → n ≤ m

-- the second set has so many addresses more than the first
abbrev pub AreAdded : {A : Type 0} → KeyOrder A → List (Item (AnyRange A) (Unit {0}))
    → List (Item (AnyRange A) (Unit {0})) → ℕ → Type 0
AreAdded order items cover added = (n m : ℕ) → IsNumberOfKeys order (HoldsKey order items) n
    → IsNumberOfKeys order (HoldsKey order cover) m → m ≡ n + added
