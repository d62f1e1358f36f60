-- The widest prefixes of runs of numbers, one after the other.
use Rattle.std.specs.Prelude.{ℕ, zero, suc, ◌+◌, ◌-◌, ◌%◌, ◌^◌, Bool, ◌&&◌, ◌==◌, if◌then◌else◌, nat_lt, List, [], ◌∷◌, ◌++◌, Option, Some, None}
use Rattle.address_prefixes.specs.declared.prefix.Prefix.{Prefix}

-- 2^k numbers from a multiple of 2^k on end before the other number
unfoldable pub fits : ℕ → ℕ → ℕ → Bool
fits k from past = (from % 2 ^ k == 0) && nat_lt (from + 2 ^ k) (past + 1)

-- the greatest k up to a bound for which they do
unfoldable pub widest : ℕ → ℕ → ℕ → ℕ
widest zero from past = 0
widest (suc k) from past = if fits (suc k) from past then suc k else widest k from past

module _ {A : Type 0} (at : ℕ → A) (width : ℕ) where
  -- the prefix of 2^k addresses from a number on
  abbrev pub prefix_at : ℕ → ℕ → Prefix A
  prefix_at from k = record { network = at from; last = at (from + 2 ^ k - 1); length = width - k }

  -- the first prefixes of the numbers from one up to and without another, each as wide as it goes
  unfoldable pub tiles : ℕ → ℕ → ℕ → List (Prefix A)
  tiles zero from past = []
  tiles (suc n) from past =
      if nat_lt from past then prefix_at from (widest width from past)
      ∷ tiles n (from + 2 ^ widest width from past) past else []

  -- all of them
  abbrev pub all_tiles : ℕ → ℕ → List (Prefix A)
  all_tiles from past = tiles (past - from) from past

  -- those of what is left of a run
  abbrev pub part_tiles : Option (ℕ × ℕ) → List (Prefix A)
  part_tiles None = []
  part_tiles (Some run) = all_tiles run.0 (run.1 + 1)

  -- those of all runs
  abbrev pub run_tiles : List (ℕ × ℕ) → List (Prefix A)
  run_tiles [] = []
  run_tiles (run ∷ runs) = all_tiles run.0 (run.1 + 1) ++ run_tiles runs
