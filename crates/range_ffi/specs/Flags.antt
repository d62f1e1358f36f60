-- How a range crosses to C: by two keys, and by flags that say how each bounds it.
use Rattle.std.specs.Prelude.{ℕ, ℤ, ◌+◌, ◌*◌, ◌^◌, Bool, not, nat_eq, bit_and, if◌then◌else◌}
use Rattle.std.specs.declared.ops.Bound.{Bound}
use Rattle.std.specs.declared.ops.Bound.TheVariants.{Included, Excluded, Unbounded}
use Rattle.range_algebra.specs.declared.any.AnyRange.{AnyRange}
use Rattle.range_store.specs.declared.storage.Item.{Item}
use Rattle.range_ffi.specs.declared.bounds.TheConstants.{START_EXCLUDED, START_UNBOUNDED, END_EXCLUDED, END_UNBOUNDED}
use Rattle.range_ffi.specs.declared.bounds.Bounds.{Bounds}
use Rattle.range_ffi.specs.declared.bounds.SignedBounds.{SignedBounds}
use Rattle.range_ffi.specs.declared.bounds.Entry.{Entry}
use Rattle.range_ffi.specs.declared.bounds.SignedEntry.{SignedEntry}
use Rattle.range_ffi.specs.declared.bounds.Length.{Length}

abbrev pub has_flag : ℕ → ℕ → Bool
has_flag flags flag = not (nat_eq (bit_and flags flag) 0)

module _ {K : Type 0} where
  -- what the key bounds, by the flags of excluded and of unbounded
  abbrev pub flagged_bound : ℕ → ℕ → ℕ → K → Bound K
  flagged_bound flags excluded unbounded key =
      if has_flag flags unbounded then Unbounded
      else (if has_flag flags excluded then Excluded key else Included key)

  -- the range that two keys and flags say
  abbrev pub flagged_range : K → K → ℕ → AnyRange K
  flagged_range start end flags =
      record {
        start = flagged_bound flags START_EXCLUDED START_UNBOUNDED start;
        end = flagged_bound flags END_EXCLUDED END_UNBOUNDED end;
      }

  -- the flag that says the bound, of those of excluded and of unbounded
  abbrev pub bound_flag : ℕ → ℕ → Bound K → ℕ
  bound_flag excluded unbounded (Included key) = 0
  bound_flag excluded unbounded (Excluded key) = excluded
  bound_flag excluded unbounded Unbounded = unbounded

  -- the bound's key, or the other one where it has none
  abbrev pub key_or : Bound K → K → K
  key_or (Included key) other = key
  key_or (Excluded key) other = key
  key_or Unbounded other = other

-- the range that the bounds say
abbrev pub range_of : Bounds → AnyRange ℕ
range_of b = flagged_range b.start b.end b.flags

abbrev pub signed_range_of : SignedBounds → AnyRange ℤ
signed_range_of b = flagged_range b.start b.end b.flags

-- the item that the entry says
abbrev pub entry_item : Entry → Item (AnyRange ℕ) ℕ
entry_item e = record { key = range_of e.range; value = e.value }

abbrev pub signed_entry_item : SignedEntry → Item (AnyRange ℤ) ℕ
signed_entry_item e = record { key = signed_range_of e.range; value = e.value }

-- the item of a set that the bounds say
abbrev pub bounds_item : Bounds → Item (AnyRange ℕ) (Unit {0})
bounds_item b = record { key = range_of b; value = tt }

abbrev pub signed_bounds_item : SignedBounds → Item (AnyRange ℤ) (Unit {0})
signed_bounds_item b = record { key = signed_range_of b; value = tt }

-- the range of what says an item
abbrev pub said_range : {E K V : Type 0} → (E → Item (AnyRange K) V) → E → AnyRange K
said_range said e = (said e).key

-- the number of keys that the parts say
abbrev pub number_of : Length → ℕ
number_of n = n.high * 2 ^ 64 + n.low

-- the keys from this one on
abbrev pub from_key : {K : Type 0} → K → AnyRange K
from_key key = record { start = Included key; end = Unbounded }

-- the keys up to this one
abbrev pub upto_key : {K : Type 0} → K → AnyRange K
upto_key key = record { start = Unbounded; end = Included key }
