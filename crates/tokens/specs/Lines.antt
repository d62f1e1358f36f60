-- What is written of a token.
use Rattle.std.specs.Prelude.{ℕ, List, [], ◌++◌, codes, decimal}
use Rattle.serde_json.specs.Data.{string}
use Rattle.serde_json.specs.Written.{compact_text}
use Rattle.tokens.specs.declared.form.Form.{Form}
use Rattle.tokens.specs.declared.form.Form.TheVariants.{Plain, Raw, Json, Silent}
use Rattle.lexing.specs.declared.place.Place.{Place}
use Rattle.tokens.specs.Escaping.{escaped}

-- the text as a string of JSON
abbrev pub json_string : List ℕ → List ℕ
json_string text = compact_text (string text)

-- the line of a token: its place, the name of its rule, and its text
abbrev pub token_line : Form → Place → List ℕ → List ℕ → List ℕ
token_line Plain place name piece =
    decimal place.line ++ codes ":" ++ decimal place.column ++ codes " " ++ name ++ codes " "
    ++ escaped piece ++ codes "\n"
token_line Raw place name piece =
    decimal place.line ++ codes ":" ++ decimal place.column ++ codes " " ++ name ++ codes " "
    ++ piece ++ codes "\n"
token_line Json place name piece =
    codes "{\"line\":" ++ decimal place.line ++ codes ",\"column\":" ++ decimal place.column
    ++ codes ",\"rule\":" ++ json_string name ++ codes ",\"text\":" ++ json_string piece
    ++ codes "}\n"
token_line Silent place name piece = []
