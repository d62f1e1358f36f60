-- What a line of a table says, in each layout.
use Rattle.std.specs.Prelude.{◌≡◌, ◌≢◌, ◌≤◌, ◌<◌, ◌^◌, ◌⊎◌, ◌==◌, ℕ, Bool, List, [], ◌∷◌, Option, Some, IfSome, option_map, length, drop}
use Rattle.std.specs.Char.{is_ascii_whitespace}
use Rattle.std.specs.List.{after_first, before_first, prefix_len}
use Rattle.std.specs.Net.Grammar.{IsNumber}
use Rattle.std.specs.Str.{IsUtf8}
use Rattle.csv.specs.Machine.{next_record}
use Rattle.csv.specs.Reading.{default_config, strip_bom}
use Rattle.csv.specs.declared.parser.State.TheVariants as st
use Rattle.address_text.specs.Lines.{HasByte, Says, content, trimmed}
use Rattle.address_text.specs.Texts.{IsAddressText}
use Rattle.address_text.specs.declared.family.Family.{Family}
use Rattle.address_text.specs.declared.family.Family.TheVariants.{V4, V6}
use Rattle.address_text.specs.declared.line.Line.{Line}
use Rattle.address_text.specs.declared.line.Line.TheVariants.{Addresses, Nothing}
use Rattle.address_rows.specs.Rows.{Row}
use Rattle.address_rows.specs.declared.line.Layout.{Layout}
use Rattle.address_rows.specs.declared.line.Layout.TheVariants as Laid

abbrev pub is_comma : ℕ → Bool
is_comma b = b == 44

abbrev pub is_quote : ℕ → Bool
is_quote b = b == 34

-- the text up to the first white space, and what stands behind it
abbrev pub first_word : List ℕ → List ℕ
first_word text = before_first is_ascii_whitespace text

abbrev pub behind_word : List ℕ → List ℕ
behind_word text = trimmed (drop (length (first_word text)) text)

-- a value: text, and not empty
abbrev pub IsValue : List ℕ → Type 0
IsValue text = IsUtf8 text × (text ≢ [])

-- the one text says the addresses of the row, as a line of a list does, and the other is its value
pub record IsRow (strict : Bool) (addresses value : List ℕ) (row : Row) : Type 0 where
  pub says : Says strict addresses row.addresses
  pub some : content addresses ≢ []
  pub valued : IsValue value
  pub is : row.value ≡ value

-- RFC 4180 has the text as these two fields
abbrev pub AreRecord : List ℕ → List ℕ → List ℕ → Type 0
AreRecord text first second =
    option_map (λ p. p.0) (next_record default_config st.StartRecord [] [] (strip_bom text))
    ≡ Some (first ∷ second ∷ [])

-- the text has these two fields: by its comma, or, where it has a quote, as RFC 4180 says
abbrev pub AreFields : List ℕ → List ℕ → List ℕ → Type 0
AreFields text first second = (HasByte is_quote text × AreRecord text first second)
    ⊎ ((¬ HasByte is_quote text) × HasByte is_comma text
    × (first ≡ before_first is_comma text) × (second ≡ after_first is_comma text)
    × ¬ HasByte is_comma second)

-- the text is a number of 32 bits
abbrev pub IsBits : List ℕ → ℕ → Type 0
IsBits text n = IsNumber 10 text n × (n < 2 ^ 32)

-- the text is this address: of IPv4 by a number, or else as it is written
abbrev pub IsEnd : Family → List ℕ → ℕ → Type 0
IsEnd V4 text n = IsBits text n ⊎ (((bits : ℕ) → ¬ IsBits text bits) × IsAddressText V4 text n)
IsEnd V6 text n = IsAddressText V6 text n

-- the texts are the first and the last of the addresses
abbrev pub AreEnds : List ℕ → List ℕ → Line → Type 0
AreEnds from to Nothing = ⊥
AreEnds from to (Addresses family first last) =
    IsEnd family from first × IsEnd family to last × (first ≤ last)

-- a text with two commas: the addresses from the first one to the second, and their value
pub record IsDecimalRow (text : List ℕ) (row : Row) : Type 0 where
  pub has_comma : HasByte is_comma text
  pub has_another : HasByte is_comma (after_first is_comma text)
  pub ends : AreEnds (before_first is_comma text)
      (before_first is_comma (after_first is_comma text)) row.addresses
  pub valued : IsValue (after_first is_comma (after_first is_comma text))
  pub is : row.value ≡ after_first is_comma (after_first is_comma text)

-- a text with quotes says a row in its two fields
abbrev pub SaysRecord : Bool → List ℕ → Row → Type 0
SaysRecord strict text row = (first : List ℕ) × (second : List ℕ)
    × AreRecord text first second × IsRow strict first second row

-- a text says a row in its two fields
abbrev pub SaysFields : Bool → List ℕ → Row → Type 0
SaysFields strict text row = (first : List ℕ) × (second : List ℕ)
    × AreFields text first second × IsRow strict first second row

-- what a line says in a layout
abbrev pub SaysRow : Layout → Bool → List ℕ → Row → Type 0
SaysRow Laid.Lines strict line row =
    IsRow strict (first_word (content line)) (behind_word (content line)) row
SaysRow Laid.Csv strict line row = IsUtf8 (trimmed line) × SaysFields strict (trimmed line) row
SaysRow Laid.Decimal strict line row = IsUtf8 (trimmed line) × IsDecimalRow (trimmed line) row

-- a line is left alone that is blank or a comment, or whose first field is the name of a column
abbrev pub IsSkipped : List ℕ → List ℕ → Type 0
IsSkipped header line = (content line ≡ [])
    ⊎ ((header ≢ []) × (before_first is_comma (trimmed line) ≡ header))
