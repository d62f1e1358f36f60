-- The stored ranges that a range meets.
use Rattle.std.specs.Prelude.{◌≡◌, List}
use Rattle.range_keys.specs.Order.{KeyOrder}
use Rattle.range_algebra.specs.declared.any.AnyRange.{AnyRange}
use Rattle.range_reads.specs.FreeRanges.{item_ranges}
use Rattle.range_map.specs.Overlapping.{AreOverlapping}
use Rattle.range_store.specs.declared.storage.Item.{Item}

-- the ranges of the items that meet the range
abbrev pub AreRangesThatMeet : {K V : Type 0} → KeyOrder K → List (Item (AnyRange K) V) → AnyRange K
    → List (AnyRange K) → Type 0
AreRangesThatMeet {K} {V} order items r ranges =
    (met : List (Item (AnyRange K) V)) × AreOverlapping order items r met
    × (ranges ≡ item_ranges met)
