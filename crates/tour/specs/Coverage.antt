-- The bytes of a file that is downloaded: which have come, and which are missing.
use Rattle.std.specs.Prelude.{ℕ, ◌+◌, ◌≤◌, ◌<◌, List}
use Rattle.std.specs.declared.ops.Bound.{Bound}
use Rattle.std.specs.declared.ops.Bound.TheVariants.{Included, Excluded, Unbounded}
use Rattle.std.specs.declared.ops.Range.{Range}
use Rattle.btree_range_map.specs.AnyRange.{AnyRange}
use Rattle.btree_range_map.specs.Item.{Item}
use Rattle.btree_range_map.specs.KeySets.{HoldsKey}
use Rattle.btree_range_map.specs.Names.{u64_order}

-- how many bytes the file has, and the ranges of those that have come
pub record Bytes : Type 0 where
  pub size : ℕ
  pub come : List (Item (AnyRange ℕ) (Unit {0}))

abbrev pub HasCome : Bytes → ℕ → Type 0
HasCome bytes byte = HoldsKey u64_order bytes.come byte

-- all bytes of the file have come
abbrev pub IsWhole : Bytes → Type 0
IsWhole bytes = (byte : ℕ) → byte < bytes.size → HasCome bytes byte

-- some bytes of the file, none of which has come, while all before them have, and so has the byte
-- after them
pub record IsMissing (bytes : Bytes) (piece : Range ℕ) : Type 0 where
  pub some : piece.start < piece.end
  pub inside : piece.end ≤ bytes.size
  pub missing : (byte : ℕ) → piece.start ≤ byte → byte < piece.end → ¬ HasCome bytes byte
  pub first : (byte : ℕ) → byte < piece.start → HasCome bytes byte
  pub whole : piece.end < bytes.size → HasCome bytes piece.end

-- the first byte that a start holds
abbrev pub first_of : Bound ℕ → ℕ
first_of (Included a) = a
first_of (Excluded a) = a + 1
first_of Unbounded = 0

-- the byte after the last one that an end holds
abbrev pub past_of : Bound ℕ → ℕ
past_of (Included b) = b + 1
past_of (Excluded b) = b
past_of Unbounded = 18446744073709551616
