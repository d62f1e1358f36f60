-- Bytes that are no text, and texts that begin with a byte order mark.
use Rattle.std.specs.Prelude.{◌≡◌, ℕ, Bool, false, ◌&&◌, ◌==◌, List, [], ◌∷◌, ⊤}
use Rattle.std.specs.Str.{IsUtf8, IsValidUpTo}
use Rattle.lexing.specs.declared.place.Place.{Place}
use Rattle.lexing.specs.Places.{place_at}
use Rattle.tokens.specs.declared.texts.Stop.{Stop}
use Rattle.tokens.specs.declared.texts.Stop.TheVariants.{Unreadable, NoText, Unwritable}

-- the bytes up to the place are UTF-8, and no character of it stands there
abbrev pub IsFirstFault : List ℕ → Place → Type 0
IsFirstFault bytes place = (at : ℕ) × (¬ IsUtf8 bytes) × IsValidUpTo bytes at
    × (place ≡ place_at bytes at)

-- where it is said that bytes are no text, the place is that of the first fault
abbrev pub TellsFault : List ℕ → Stop → Type 0
TellsFault bytes (Unreadable error) = ⊤
TellsFault bytes (NoText place) = IsFirstFault bytes place
TellsFault bytes (Unwritable error) = ⊤

-- they cannot be read
abbrev pub IsReadFault : Stop → Type 0
IsReadFault (Unreadable error) = ⊤
IsReadFault (NoText place) = ⊥
IsReadFault (Unwritable error) = ⊥

-- the bytes are no text, of which the place of the first fault is told
abbrev pub IsNoText : List ℕ → Stop → Type 0
IsNoText bytes (Unreadable error) = ⊥
IsNoText bytes (NoText place) = IsFirstFault bytes place
IsNoText bytes (Unwritable error) = ⊥

-- the first character is U+FEFF
abbrev pub begins_with_mark : List ℕ → Bool
begins_with_mark [] = false
begins_with_mark (first ∷ []) = false
begins_with_mark (first ∷ second ∷ []) = false
begins_with_mark (first ∷ second ∷ third ∷ rest) =
    first == 239 && second == 187 && third == 191
