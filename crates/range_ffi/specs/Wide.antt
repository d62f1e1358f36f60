-- How keys of 128 bits cross to C, and ranges of them.
use Rattle.std.specs.Prelude.{ℕ, ◌+◌, ◌*◌, ◌^◌, Option}
use Rattle.address_keys.specs.declared.ipv6.Ipv6.{Ipv6}
use Rattle.range_algebra.specs.declared.any.AnyRange.{AnyRange}
use Rattle.range_store.specs.declared.storage.Item.{Item}
use Rattle.range_ffi.specs.Bindings.{binding_value}
use Rattle.range_ffi.specs.Flags.{flagged_range}
use Rattle.range_ffi.specs.declared.wide.WideKey.{WideKey}
use Rattle.range_ffi.specs.declared.wide.WideBounds.{WideBounds}
use Rattle.range_ffi.specs.declared.wide.WideEntry.{WideEntry}
use Rattle.range_ffi.specs.declared.wide.WidePiece.{WidePiece}

-- the key that the words say
abbrev pub wide_key : WideKey → Ipv6
wide_key words = record { 0 = words.high * 2 ^ 64 + words.low }

-- the range that the bounds say
abbrev pub wide_range_of : WideBounds → AnyRange Ipv6
wide_range_of b = flagged_range (wide_key b.start) (wide_key b.end) b.flags

-- the item that the entry says
abbrev pub wide_entry_item : WideEntry → Item (AnyRange Ipv6) ℕ
wide_entry_item e = record { key = wide_range_of e.range; value = e.value }

-- the item of a set that the bounds say
abbrev pub wide_bounds_item : WideBounds → Item (AnyRange Ipv6) (Unit {0})
wide_bounds_item b = record { key = wide_range_of b; value = tt }

-- the part of a range that the piece says, with the value that it is bound to, or none
abbrev pub wide_piece_item : WidePiece → Item (AnyRange Ipv6) (Option ℕ)
wide_piece_item p = record { key = wide_range_of p.range; value = binding_value p.binding }
