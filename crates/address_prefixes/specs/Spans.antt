-- The numbers of the addresses that a range holds.
use Rattle.std.specs.Prelude.{ℕ, ◌+◌, ◌-◌, ◌≤◌, ◌<◌, ◌^◌}
use Rattle.std.specs.declared.ops.Bound.{Bound}
use Rattle.std.specs.declared.ops.Bound.TheVariants.{Included, Excluded, Unbounded}
use Rattle.btree_range_map.specs.AnyRange.{AnyRange}

module _ {A : Type 0} (number : A → ℕ) where
  -- the number from which on a start bound holds addresses
  abbrev pub start_number : Bound A → ℕ
  start_number (Included a) = number a
  start_number (Excluded a) = number a + 1
  start_number Unbounded = 0

  module _ (width : ℕ) where
    -- the number before which an end bound holds addresses
    abbrev pub past_number : Bound A → ℕ
    past_number (Included a) = number a + 1
    past_number (Excluded a) = number a
    past_number Unbounded = 2 ^ width

    -- the range holds an address, and addresses alone
    abbrev pub HasSpan : AnyRange A → Type 0
    HasSpan r = (start_number r.start < past_number r.end) × (past_number r.end ≤ 2 ^ width)

    -- the numbers of its first and of its last
    abbrev pub span : AnyRange A → ℕ × ℕ
    span r = (start_number r.start, past_number r.end - 1)
