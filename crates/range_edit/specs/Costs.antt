-- How many steps a counted call adds, and the greatest number of levels that a tree of so many
-- items may have.
use Rattle.std.specs.Prelude.{◌+◌, ◌*◌, ◌≤◌, ◌≡◌, ◌-◌, ◌^◌, ◌⊎◌, if◌then◌else◌}
use Rattle.range_edit.specs.Common.{ℕ, min, zero, suc, nat_lt}
use Rattle.range_store.specs.Counting.{greatest_count}
use Rattle.range_nodes.specs.declared.nodes.TheConstants.{MIN_LEN}

-- from `before` to `after` a counter took at least so many steps
abbrev pub TakesAtLeast : ℕ → ℕ → ℕ → Type 0
TakesAtLeast before after least = min (before + least) greatest_count ≤ after

-- what a change may take where a search asks at most `most` times: two such searches, ten steps,
-- and two for each range that it leaves fewer than there were; said with no difference, since it
-- may leave more
abbrev pub TakesAsChange : ℕ → ℕ → ℕ → ℕ → ℕ → Type 0
TakesAsChange before after most many left = after + 2 * left ≤ before + 2 * most + 2 * many + 10

-- the greatest number of levels that a tree of fewer than so many items may have, or 0 where none
-- may have any
pub record IsGreatestLevel (many level : ℕ) : Type 0 where
  pub reached : (level ≡ 0) ⊎ ((1 ≤ level) × (2 * (MIN_LEN + 1) ^ (level - 1) ≤ many))
  pub greatest : (other : ℕ) → 1 ≤ other → 2 * (MIN_LEN + 1) ^ (other - 1) ≤ many → other ≤ level

-- the greatest such number up to another one
unfoldable pub greatest_level_to : ℕ → ℕ → ℕ
greatest_level_to many zero = 0
greatest_level_to many (suc d) =
    if nat_lt many (2 * (MIN_LEN + 1) ^ d) then greatest_level_to many d else suc d

-- the number itself: no tree has more levels than items
unfoldable pub greatest_level : ℕ → ℕ
greatest_level many = greatest_level_to many many
