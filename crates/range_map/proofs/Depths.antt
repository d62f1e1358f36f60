-- There is one greatest number of levels, and `greatest_level` is it.
use Rattle.range_map.proofs.Common.{common_steps, ◌≡◌, ℕ, zero, suc, ◌+◌, ◌-◌, ◌*◌, ◌^◌, ◌<◌, ◌≤◌, ◌⊎◌, inl, refl, arith}
use Rattle.std.proofs.lemmas.Bool.Decides.{leb_tells}
use Rattle.range_nodes.specs.declared.nodes.TheConstants.{MIN_LEN}
use Rattle.range_tree.proofs.Levels.{pow_more}
use Rattle.range_edit.specs.Costs.{IsGreatestLevel, greatest_level, greatest_level_to}

-- the level may be reached
abbrev IsReached : ℕ → ℕ → Type 0
IsReached many level = (1 ≤ level) × (2 * (MIN_LEN + 1) ^ (level - 1) ≤ many)

-- a level that is not the next one lies below it
unreached_level_is_below : (many d other : ℕ) → other ≤ suc d → IsReached many other
    → many < 2 * (MIN_LEN + 1) ^ d → other ≤ d
unreached_level_is_below many d other small reached over = grind (arith, common_steps, leb_tells)

-- the level up to a number is reached, and no lower than another one that is
greatest_to : (many most : ℕ)
    → ((greatest_level_to many most ≡ 0) ⊎ IsReached many (greatest_level_to many most))
    × ((other : ℕ) → other ≤ most → IsReached many other → other ≤ greatest_level_to many most)
unfolding greatest_level_to
greatest_to many zero = (inl refl, λ other small reached. absurd (omega (arith, small, reached)))
greatest_to many (suc d) =
    grind (arith, common_steps, leb_tells, greatest_to many d, unreached_level_is_below)

pub greatest_level_is : (many : ℕ) → IsGreatestLevel many (greatest_level many)
unfolding greatest_level
greatest_level_is many = grind (arith, common_steps, greatest_to, pow_more)

at_most : (many first second : ℕ) → IsGreatestLevel many first → IsGreatestLevel many second
    → first ≤ second
at_most many first second one other = grind (arith, common_steps)

pub one_greatest : (many level : ℕ) → IsGreatestLevel many level → level ≡ greatest_level many
one_greatest many level is = grind (arith, common_steps, greatest_level_is, at_most)
