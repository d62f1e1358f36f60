-- The stored ranges of a map with their values.
use Rattle.std.specs.Prelude.{ℤ, List}
use Rattle.btree_range_map.specs.AnyRange.{AnyRange}
use Rattle.btree_range_map.specs.Item.{Item}

abbrev pub Ranges : Type 0 → Type 0
Ranges K = List (Item (AnyRange K) ℤ)

abbrev pub item_of : {K : Type 0} → AnyRange K → ℤ → Item (AnyRange K) ℤ
item_of range value = record { key = range; value = value }
