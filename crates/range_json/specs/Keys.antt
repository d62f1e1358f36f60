-- What a key or a plain value is written as, and which one a JSON value stands for.
use Rattle.std.specs.Prelude.{ℕ, ℤ, pos, negsuc, int_lt, List, nat_le, if◌then◌else◌, Option, Some, None, option_and_then, chars, encode_utf8, length, ◌==◌}
use Rattle.std.specs.List.{slice_get}
use Rattle.serde_json.specs.Data.{Data, number, string, unsigned}
use Rattle.serde_json.specs.Find.{as_number, as_u64, as_i64, as_str, of_integer}

abbrev pub up_to : ℕ → ℕ → Option ℕ
up_to top n = if nat_le n top then Some n else None

abbrev pub unsigned_of : ℕ → Data → Option ℕ
unsigned_of top d = option_and_then (up_to top) (option_and_then as_u64 (as_number d))

abbrev pub within : ℕ → ℤ → Option ℤ
within top z = if int_lt z (negsuc top) then None else (if int_lt (pos top) z then None else Some z)

abbrev pub signed_of : ℕ → Data → Option ℤ
signed_of top d = option_and_then (within top) (option_and_then as_i64 (as_number d))

-- the first character of the text, where the text is no longer
abbrev pub whole : List ℕ → ℕ → Option ℕ
whole s c = if length (encode_utf8 c) == length s then Some c else None

abbrev pub character_of : Data → Option ℕ
character_of d = option_and_then (λ s. option_and_then (whole s) (slice_get (chars s) 0)) (as_str d)

abbrev pub unsigned_shape : ℕ → Data
unsigned_shape n = number (unsigned n)

abbrev pub signed_shape : ℤ → Data
signed_shape z = number (of_integer z)

abbrev pub character_shape : ℕ → Data
character_shape c = string (encode_utf8 c)
