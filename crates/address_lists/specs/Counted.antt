-- How many addresses a list has, as it is printed.
use Rattle.std.specs.Prelude.{◌≡◌, ℕ, List, [], ◌∷◌, ◌++◌, codes, decimal}
use Rattle.btree_range_map.specs.AnyRange.{AnyRange}
use Rattle.btree_range_map.specs.Holding.{box_items}
use Rattle.btree_range_map.specs.Item.{Item}
use Rattle.btree_range_map.specs.KeySets.{HoldsKey}
use Rattle.btree_range_map.specs.Numbers.{IsNumberOfKeys}
use Rattle.btree_range_map.specs.Order.{KeyOrder}
use Rattle.address_keys.specs.Addresses.{ipv4_order, ipv6_order}
use Rattle.address_lists.specs.declared.addresses.Addresses.{Addresses}

-- a text, a family and a number
abbrev pub count_line : List ℕ → List ℕ → ℕ → List ℕ
count_line before family n = before ++ family ++ codes " " ++ decimal n ++ 10 ∷ []

-- the line of the number of addresses
abbrev pub IsCountLine : {A V : Type 0} → List ℕ → List ℕ → KeyOrder A → List (Item (AnyRange A) V)
    → List ℕ → Type 0
IsCountLine before family order items text = (n : ℕ) × IsNumberOfKeys order (HoldsKey order items) n
    × (text ≡ count_line before family n)

-- those of IPv4, and then those of IPv6
abbrev pub IsCounted : List ℕ → Addresses → List ℕ → Type 0
IsCounted before list text = (first : List ℕ) × (second : List ℕ)
    × IsCountLine before (codes "IPv4") ipv4_order (box_items list.v4) first
    × IsCountLine before (codes "IPv6") ipv6_order (box_items list.v6) second
    × (text ≡ first ++ second)
