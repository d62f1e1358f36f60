-- How many levels a tree of so many items may have.
use Rattle.std.specs.Prelude.{◌≡◌, ℕ, ◌+◌, ◌-◌, ◌*◌, ◌^◌, ◌<◌, ◌≤◌}
use Rattle.range_nodes.specs.declared.nodes.TheConstants.{CAPACITY, MIN_LEN}

pub record HasLevels (many levels : ℕ) : Type 0 where
  pub empty : many ≡ 0 → levels ≡ 0
  pub least : 0 < many → 2 * (MIN_LEN + 1) ^ (levels - 1) ≤ many + 1
  pub most : 0 < many → many + 1 ≤ (CAPACITY + 1) ^ levels
