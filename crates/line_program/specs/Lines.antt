-- Bytes round a separator, and at the end of a line.
use Rattle.std.specs.Prelude.{◌≡◌, ◌≢◌, ℕ, ◌<◌, List, [], ◌∷◌, ◌++◌, Option, None, Some, IfSome, length, if◌then◌else◌}
use Rattle.std.specs.Io.BufRead.{drop_through, ends_with_byte, strip_last, take_through}
use lib.ListN.{get_or}

-- no byte is this one
abbrev pub Lacks : ℕ → List ℕ → Type 0
Lacks byte bs = (i : ℕ) → i < length bs → get_or bs i 0 ≢ byte

-- bs is front, the byte and back, and front lacks the byte
abbrev pub IsSplitAt : ℕ → List ℕ → List ℕ → List ℕ → Type 0
IsSplitAt byte bs front back = (bs ≡ front ++ byte ∷ back) × Lacks byte front

-- the line without the `\n` or `\r\n` at its end
abbrev pub line_content : List ℕ → List ℕ
line_content line =
    if ends_with_byte 10 line then strip_last 13 (strip_last 10 line) else strip_last 10 line

abbrev pub first_byte : List ℕ → Option ℕ
first_byte [] = None
first_byte (byte ∷ bytes) = Some byte

-- a line that fits is read of an input, which goes on behind it
abbrev pub IsNextLine : Option (List ℕ) → Option (List ℕ) → (List ℕ → Type 0) → Type 0
IsNextLine left later Fits = IfSome left (λ bytes. (bytes ≢ [])
    × (later ≡ Some (drop_through 10 bytes)) × Fits (take_through 10 bytes))

-- this line is read of an input
abbrev pub IsLineRead : Option (List ℕ) → Option (List ℕ) → List ℕ → Type 0
IsLineRead left later line = IsNextLine left later (λ text. line ≡ text)
