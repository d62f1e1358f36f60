-- What the cells of a block have.
use Rattle.std.specs.Prelude.{◌≡◌, ℕ, ◌+◌, ◌<◌, ◌≤◌, ◌⊎◌, get_or, List, length, map, take, drop, Option, Some, None}

module _ {X : Type 0} where
  -- what the cell at an index has, and nothing past the last
  abbrev pub cell : List (Option X) → ℕ → Option X
  cell cells index = get_or cells index None

  abbrev pub IsFilled : List (Option X) → ℕ → Type 0
  IsFilled cells index = (item : X) × (cell cells index ≡ Some item)

  -- there are so many cells from `start` on, and each has an item
  abbrev pub IsRun : List (Option X) → ℕ → ℕ → Type 0
  IsRun cells start len = (start + len ≤ length cells) × ((items : List X) × (take len (drop start cells) ≡ map Some items))

  -- each of the cells from `low` up to `high` has an item
  abbrev pub AreFilled : List (Option X) → ℕ → ℕ → Type 0
  AreFilled cells low high = (k : ℕ) → low ≤ k → k < high → IsFilled cells k

  -- none of them has one
  abbrev pub AreEmpty : List (Option X) → ℕ → ℕ → Type 0
  AreEmpty cells low high = (k : ℕ) → low ≤ k → k < high → cell cells k ≡ None

  -- all others have what they had
  pub record SameOutside (old new : List (Option X)) (low high : ℕ) : Type 0 where
    pub len : length new ≡ length old
    pub same : (k : ℕ) → (k < low) ⊎ (high ≤ k) → cell new k ≡ cell old k
