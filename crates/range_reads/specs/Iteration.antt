-- What is left of an iterator over stored items, which takes from both ends.
use Rattle.std.specs.Prelude.{◌≡◌, ℕ, ◌+◌, ◌-◌, ◌≤◌, List, length, take, drop, Option}
use Rattle.std.specs.Option.{ForSome}
use Rattle.range_algebra.specs.declared.any.AnyRange.{AnyRange}
use Rattle.range_store.specs.ListRanks.{IsAt}
use Rattle.range_store.specs.declared.storage.Item.{Item}
pub use Rattle.range_runs.specs.Runs.{shown_item}
use Rattle.range_runs.specs.Window.{index_after}

-- the item that a pair is made of
abbrev pub pair_item : {K V : Type 0} → AnyRange K × V → Item (AnyRange K) V
pair_item pair = record { key = pair.0; value = pair.1 }

-- the last items up to `back` are left, of which those of the run come first, and then those
-- from `front` on
pub record IsIterator {T P : Type 0} (items : List T) (is_good : P → Type 0) (rank : P → ℕ)
    (run : List T) (front back : Option P) (left : ℕ) : Type 0 where
  pub last : ForSome back is_good
  pub in_range : index_after rank back ≤ length items
  pub enough : left ≤ index_after rank back
  pub run_is : run ≡ take (length run) (drop (index_after rank back - left) items)
  pub front_at : IsAt is_good rank (length items) front
      (index_after rank back - left + length run)
