-- What is shown where no token begins.
use Rattle.std.specs.Prelude.{◌≡◌, ◌⊎◌, ℕ, ◌==◌, List, ◌∷◌, ◌++◌, map, codes, decimal, if◌then◌else◌}
use Rattle.std.specs.Str.{chars}
use Rattle.line_program.specs.Lines.{Lacks}
use Rattle.lexing.specs.declared.place.Place.{Place}
use Rattle.tokens.specs.Texts.{begins_with_mark}

-- the line is the last of the text
abbrev pub EndsWithLine : List ℕ → List ℕ → Type 0
EndsWithLine text line = Lacks 10 line
    × ((text ≡ line) ⊎ ((front : List ℕ) × (text ≡ front ++ 10 ∷ line)))

-- the line is the first of the text
abbrev pub BeginsWithLine : List ℕ → List ℕ → Type 0
BeginsWithLine text line = Lacks 10 line
    × ((text ≡ line) ⊎ ((back : List ℕ) × (text ≡ line ++ 10 ∷ back)))

-- a tab below a tab, and a space below each other character
abbrev pub blank_below : ℕ → ℕ
blank_below c = if c == 9 then 9 else 32

-- the line below a line that marks the character behind the text
abbrev pub mark_below : List ℕ → List ℕ
mark_below before = codes "  " ++ map blank_below (chars before) ++ codes "^\n"

-- the place, and that no token begins with what stands there
abbrev pub fault_place : List ℕ → Place → List ℕ → List ℕ
fault_place path place rest =
    path ++ codes ":" ++ decimal place.line ++ codes ":" ++ decimal place.column
    ++ (if begins_with_mark rest then codes ": no token begins with this byte order mark\n"
    else codes ": no token begins here\n")

abbrev pub shown_line : List ℕ → List ℕ → List ℕ
shown_line before behind = codes "  " ++ before ++ behind ++ codes "\n"

-- what is shown where no token begins at the place, between the two texts: path and place, the line,
-- and a mark below the character
abbrev pub ShowsFault : List ℕ → Place → List ℕ → List ℕ → List ℕ → Type 0
ShowsFault path place front rest shown = (before : List ℕ) × (behind : List ℕ)
    × EndsWithLine front before × BeginsWithLine rest behind
    × (shown ≡ fault_place path place rest ++ shown_line before behind ++ mark_below before)
