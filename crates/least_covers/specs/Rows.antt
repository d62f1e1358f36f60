-- How many numbers a block takes in addition, with at most so many prefixes.
use Rattle.std.specs.Prelude.{◌≡◌, ℕ, ◌+◌, ◌-◌, ◌≤◌, ◌<◌, ◌^◌, ◌⊎◌, Bool, true, min, List, length, get_or}
use Rattle.shortest_tables.specs.Tables.{Bits}
use Rattle.shortest_tables.specs.Numbers.{bits}
use Rattle.least_covers.specs.Covers.{how_many, some_holds}

-- the number of a row for k prefixes: its last, where it has fewer than k
abbrev pub at : List ℕ → ℕ → ℕ
at row k = get_or row (min k (length row) - 1) 0

-- more prefixes add no more
abbrev pub Falls : List ℕ → Type 0
Falls row = (i j : ℕ) → 1 ≤ i → i ≤ j → at row j ≤ at row i

-- the prefixes hold each number of a block that passes
abbrev pub AreCovered : ℕ → (ℕ → Bool) → List Bits → Type 0
AreCovered width f ps = (n : ℕ) → n < 2 ^ width → f n ≡ true → some_holds ps (bits width n) ≡ true

-- a block has some number that passes, and the row says how many numbers k prefixes add at least
pub record IsRow (most width : ℕ) (f : ℕ → Bool) (room : ℕ) (row : List ℕ) : Type 0 where
  pub some : (n : ℕ) × (n < 2 ^ width) × (f n ≡ true)
  pub least : (k : ℕ) → k ≤ most → (ps : List Bits) → length ps ≤ k → AreCovered width f ps
      → at row k + how_many (2 ^ width) f ≤ how_many (2 ^ width) (λ n. some_holds ps (bits width n))
  pub falls : Falls row
  pub within : at row 1 ≤ room
  pub count : how_many (2 ^ width) f + room ≡ 2 ^ width

-- k prefixes are all for the first half's share and the rest for the second, or one is for the block
abbrev pub IsShared : ℕ → List ℕ → List ℕ → ℕ → ℕ → ℕ → Type 0
IsShared room low high k share added = ((share ≡ 0) × (added ≡ room))
    ⊎ ((1 ≤ share) × (share < k) × (added ≡ at low share + at high (k - share)))

-- so far the row says the least that two halves add, and how k prefixes are shared
pub record IsJoinedSoFar (room : ℕ) (low high shares row : List ℕ) : Type 0 where
  pub count : length shares ≡ length row
  pub each : (k : ℕ) → 1 ≤ k → k ≤ length row
      → IsShared room low high k (get_or shares (k - 1) 0) (get_or row (k - 1) 0)
  pub least : (k i : ℕ) → k ≤ length row → 1 ≤ i → i < k
      → get_or row (k - 1) 0 ≤ at low i + at high (k - i)
