-- Texts that are read in pieces.
use Rattle.std.specs.Prelude.{◌≡◌, ℕ, Bool, true, List, [], ◌++◌, Option}
use Rattle.std.specs.Io.KnownBytes.{Consumes}
use Rattle.std.specs.Str.{IsUtf8, IsValidUpTo}

-- the bytes before grow by those that are read
abbrev pub Reads : Option (List ℕ) → Option (List ℕ) → List ℕ → List ℕ → Type 0
Reads left rest before after =
    (more : List ℕ) × (after ≡ before ++ more) × Consumes left rest more

-- what may follow a piece of a text, and that nothing follows the last
abbrev pub MayFollow : Bool → List ℕ → Type 0
MayFollow is_last more = is_last ≡ true → more ≡ []

-- the bytes are the piece and what of a character follows it, which is nothing at the last piece
abbrev pub IsPieceOf : List ℕ → Bool → List ℕ → Type 0
IsPieceOf bytes is_last piece =
    (rest : List ℕ) × (bytes ≡ piece ++ rest) × MayFollow is_last rest

-- whatever follows the bytes, the first of these that is no character of a text is this one
abbrev pub IsFaultAt : List ℕ → Bool → ℕ → Type 0
IsFaultAt bytes is_last at =
    (more : List ℕ) → MayFollow is_last more → IsValidUpTo (bytes ++ more) at
