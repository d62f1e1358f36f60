-- A text on one line.
use Rattle.std.specs.Prelude.{ℕ, ◌==◌, List, [], ◌∷◌, codes, flat_map, if◌then◌else◌}

-- a byte of a text that is to stand on one line
abbrev pub escaped_byte : ℕ → List ℕ
escaped_byte byte =
    if byte == 10 then codes "\\n"
    else (if byte == 13 then codes "\\r"
    else (if byte == 92 then codes "\\\\" else byte ∷ []))

-- a text on one line: a backslash and a letter stand for the end of a line
abbrev pub escaped : List ℕ → List ℕ
escaped text = flat_map escaped_byte text
