-- The addresses of blocks of numbers.
use Rattle.std.specs.Prelude.{ℕ, ◌+◌, ◌-◌, ◌^◌, List, ◌↔◌}
use Rattle.btree_range_map.specs.AnyRange.{AnyRange}
use Rattle.btree_range_map.specs.Intervals.{Any}
use Rattle.btree_range_map.specs.Item.{Item}
use Rattle.btree_range_map.specs.KeySets.{HoldsKey}
use Rattle.btree_range_map.specs.Names.{range_inclusive}
use Rattle.btree_range_map.specs.Order.{KeyOrder}
use Rattle.btree_range_map.specs.Range.{Holds}
use Rattle.least_covers.specs.declared.blocks.Block.{Block}

-- the range of a block
abbrev pub block_range : {A : Type 0} → (ℕ → A) → ℕ → Block → AnyRange A
block_range at width b =
    range_inclusive (at b.network) (at (b.network + (2 ^ (width - b.length) - 1)))

-- the set has just the addresses of some blocks
abbrev pub HoldsBlocks : {A : Type 0} → KeyOrder A → (ℕ → A) → ℕ
    → List (Item (AnyRange A) (Unit {0})) → List Block → Type 0
HoldsBlocks {A} order at width items bs = (a : A) → order.is_key a → HoldsKey order items a
    ↔ Any (λ b. Holds order (block_range at width b) a) bs
