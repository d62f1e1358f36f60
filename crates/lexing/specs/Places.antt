-- Lines and columns of a text.
use Rattle.std.specs.Prelude.{◌≡◌, ℕ, ◌+◌, Bool, ◌&&◌, nat_le, nat_lt, ◌==◌, if◌then◌else◌, List, [], ◌∷◌, take, Option, Some, None, Result, Ok, Err, ⊤}
use Rattle.lexing.specs.declared.lexer.Lexer.{Lexer}
use Rattle.lexing.specs.declared.place.Place.{Place}
use Rattle.lexing.specs.declared.placed.Placed.{Placed}
use Rattle.lexing.specs.declared.token.Token.{Token}
use Rattle.lexing.specs.declared.token.LexError.{LexError}
use Rattle.lexing.specs.declared.token.LexError.TheVariants.{NoToken, Memory}
use Rattle.lexing.specs.Given.{GivesNext}
use Rattle.lexing.specs.Left.{Left}

-- where a text begins
abbrev pub first_place : Place
first_place = record { line = 1; column = 1 }

-- the byte goes on with a character
abbrev pub is_inside : ℕ → Bool
is_inside byte = nat_le 128 byte && nat_lt byte 192

-- the place behind a byte: the end of a line begins a line, and each other character is a column
abbrev pub place_behind : Place → ℕ → Place
place_behind place byte =
    if byte == 10
    then (record { line = place.line + 1; column = 1 })
    else (if is_inside byte then place else (record { line = place.line; column = place.column + 1 }))

-- the place behind a text
abbrev pub place_after : Place → List ℕ → Place
place_after place [] = place
place_after place (byte ∷ rest) = place_after (place_behind place byte) rest

-- the place of a byte of the text
abbrev pub place_at : List ℕ → ℕ → Place
place_at text at = place_after first_place (take at text)

-- the byte of the text where the token begins, or that with which none does
abbrev pub BeginsAt : Result Token LexError → ℕ → Type 0
BeginsAt (Ok token) at = at ≡ token.start
BeginsAt (Err (NoToken place)) at = at ≡ place
BeginsAt (Err Memory) at = ⊤

-- the line and the column are those of the byte of the text where the token begins
abbrev pub IsPlaced : List ℕ → Placed → Type 0
IsPlaced text placed = (at : ℕ) × BeginsAt placed.token at × (placed.place ≡ place_at text at)

-- one call of `next`, of the tokens of a scanner with their places
abbrev pub GivesPlaced : {S : Type 0} → (S → Lexer) → (S → Type 0) → Left S → Option Placed
    → Left S → Type 0
GivesPlaced lexer may_refuse before None after = GivesNext lexer may_refuse before None after
GivesPlaced lexer may_refuse before (Some placed) after =
    GivesNext lexer may_refuse before (Some placed.token) after × IsPlaced before.text placed
