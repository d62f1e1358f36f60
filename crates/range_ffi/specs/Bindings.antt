-- How bindings cross to C, and the pieces of a range with theirs.
use Rattle.std.specs.Prelude.{ℕ, ℤ, Option, Some, None, if◌then◌else◌}
use Rattle.range_algebra.specs.declared.any.AnyRange.{AnyRange}
use Rattle.range_store.specs.declared.storage.Item.{Item}
use Rattle.range_ffi.specs.Flags.{range_of, signed_range_of}
use Rattle.range_ffi.specs.declared.bounds.Binding.{Binding}
use Rattle.range_ffi.specs.declared.bounds.Piece.{Piece}
use Rattle.range_ffi.specs.declared.bounds.SignedPiece.{SignedPiece}

-- the value that the binding says, or none
abbrev pub binding_value : Binding → Option ℕ
binding_value b = if b.is_bound then Some b.value else None

-- the part of a range that the piece says, with the value that it is bound to, or none
abbrev pub piece_item : Piece → Item (AnyRange ℕ) (Option ℕ)
piece_item p = record { key = range_of p.range; value = binding_value p.binding }

abbrev pub signed_piece_item : SignedPiece → Item (AnyRange ℤ) (Option ℕ)
signed_piece_item p = record { key = signed_range_of p.range; value = binding_value p.binding }
