-- Blocks that cover the numbers of some runs, and how many numbers they hold.
use Rattle.std.specs.Prelude.{◌≡◌, ℕ, zero, suc, ◌+◌, ◌-◌, ◌≤◌, ◌<◌, ◌^◌, Bool, true, if◌then◌else◌, List, [], ◌∷◌, map, length, take}
use Rattle.std.specs.List.{list_any}
use Rattle.shortest_tables.specs.Tables.{Bits, holds}
use Rattle.shortest_tables.specs.Numbers.{bits}
use Rattle.least_covers.specs.Runs.{has}
use Rattle.least_covers.specs.declared.blocks.Block.{Block}

-- how many of the numbers below a bound pass
unfoldable pub how_many : ℕ → (ℕ → Bool) → ℕ
how_many zero f = 0
how_many (suc n) f = how_many n f + (if f n then 1 else 0)

-- one of the prefixes holds the address
abbrev pub some_holds : List Bits → Bits → Bool
some_holds ps a = list_any (λ p. holds p a) ps

module _ (width : ℕ) where
  -- a block's prefix is the first bits of its network
  abbrev pub prefixes : List Block → List Bits
  prefixes bs = map (λ b. take b.length (bits width b.network)) bs

  -- one of the blocks holds the number
  abbrev pub are_held : List Block → ℕ → Bool
  are_held bs n = some_holds (prefixes bs) (bits width n)

  -- how many numbers the blocks hold
  abbrev pub held : List Block → ℕ
  held bs = how_many (2 ^ width) (are_held bs)

  -- each block starts where the one before it has ended, or later, the first at a number or after
  -- it, and the last one ends before another
  abbrev pub AreBetween : ℕ → ℕ → List Block → Type 0
  AreBetween from past [] = from ≤ past
  AreBetween from past (b ∷ bs) = (from ≤ b.network)
      × AreBetween (b.network + 2 ^ (width - b.length)) past bs

  -- the blocks hold each number of the runs
  abbrev pub Covers : List (ℕ × ℕ) → List Block → Type 0
  Covers runs bs = (n : ℕ) → n < 2 ^ width → has runs n ≡ true → are_held bs n ≡ true

  -- no list of at most so many blocks that covers the runs holds fewer numbers
  abbrev pub IsLeast : ℕ → List (ℕ × ℕ) → List Block → Type 0
  IsLeast most runs bs = (others : List Block) → length others ≤ most → Covers runs others
      → held bs ≤ held others
