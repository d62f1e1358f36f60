-- What a file is read as: a list of lines, or JSON where it begins so behind white space.
use Rattle.std.specs.Prelude.{◌≡◌, ◌≢◌, ◌⊎◌, ◌==◌, ◌||◌, ◌+◌, ℕ, Bool, true, false, not, List, [], ◌++◌, Option, None, Some, find}
use Rattle.std.specs.Io.BufRead.{drop_through, take_through}
use Rattle.address_text.specs.declared.family.Family.{Family}
use Rattle.address_text.specs.declared.line.Line.{Line}
use Rattle.address_lists.specs.Json.{IsDocument, IsJsonReason}
use Rattle.address_lists.specs.Lists.{AreAdded, AreGood, Has, HasJust, IsListed}
use Rattle.address_lists.specs.Reading.{HasFault, IsShown}
use Rattle.address_lists.specs.declared.addresses.Addresses.{Addresses}
use Rattle.address_lists.specs.declared.file.Start.{Start}
use Rattle.address_lists.specs.declared.read.BadLines.{BadLines}
use Rattle.address_lists.specs.declared.read.BadLines.TheVariants.{Refused, Skipped}
use Rattle.address_lists.specs.declared.read.ListError.{ListError}
use Rattle.address_lists.specs.declared.read.ListError.TheVariants.{Memory, Unread}

-- what JSON takes for white space: a space, a tab, and what ends lines
abbrev pub is_blank : ℕ → Bool
is_blank byte = (byte == 32) || (byte == 9) || (byte == 10) || (byte == 13)

-- the first byte that is something else
abbrev pub mark : List ℕ → Option ℕ
mark bytes = find (λ byte. not (is_blank byte)) bytes

-- it is `{`
abbrev pub opens_object : Option ℕ → Bool
opens_object None = false
opens_object (Some byte) = byte == 123

abbrev pub is_json : List ℕ → Bool
is_json bytes = opens_object (mark bytes)

-- these blank lines, of such a number, are the first of the input, and this is the rest of it
pub data AreBlank : List ℕ → List ℕ → ℕ → List ℕ → Type 0 where
  NoLine : (input : List ℕ) → AreBlank input [] 0 input
  OneMore : (input blanks : List ℕ) (count : ℕ) (rest : List ℕ) → AreBlank input blanks count rest
      → rest ≢ [] → mark (take_through 10 rest) ≡ None
      → AreBlank input (blanks ++ take_through 10 rest) (count + 1) (drop_through 10 rest)

-- the line shows the first of the bytes, and these are left behind it
abbrev pub IsFirstLine : List ℕ → List ℕ → Option (List ℕ) → Type 0
IsFirstLine bytes line later =
    (bytes ≢ []) × IsShown line (take_through 10 bytes) × (later ≡ Some (drop_through 10 bytes))

-- the first line that is not blank, where there is one, and what is left behind it
abbrev pub IsStart : List ℕ → Option Start → Option (List ℕ) → Type 0
IsStart bytes None later =
    (blanks : List ℕ) × (count : ℕ) × AreBlank bytes blanks count []
IsStart bytes (Some start) later = (rest : List ℕ) × (count : ℕ)
    × AreBlank bytes start.blanks.items count rest × (start.number ≡ count + 1)
    × IsFirstLine rest start.line.items later × (mark start.line.items ≡ Some start.mark)

-- what a file says: lines, or the list that its JSON is read as
pub data Content : Type 0 where
  InLines : List Line → Content
  InJson : Addresses → Content

-- it says the address
abbrev pub IsSaidIn : Content → Family → ℕ → Type 0
IsSaidIn (InLines lines) family n = IsListed family n lines
IsSaidIn (InJson list) family n = Has list family n

module _ (strict : Bool) where
  -- what is read of JSON, and of lines; of these so many are left out: none where they are refused
  abbrev pub IsReadAs : Bool → BadLines → List ℕ → Addresses → ℕ → Type 0
  IsReadAs true bad_lines bytes list others = IsDocument bytes list × (others ≡ 0)
  IsReadAs false bad_lines bytes list others =
      (lines : List Line) × AreGood strict bytes lines others []
      × HasJust list (λ family n. IsListed family n lines) × (bad_lines ≡ Refused → others ≡ 0)

  -- the file is read as the list
  abbrev pub IsFile : BadLines → List ℕ → Addresses → ℕ → Type 0
  IsFile bad_lines bytes list others = IsReadAs (is_json bytes) bad_lines bytes list others

  -- what JSON says, and lines
  abbrev pub IsContentAs : Bool → BadLines → List ℕ → Content → ℕ → Type 0
  IsContentAs true bad_lines bytes (InLines lines) others = ⊥
  IsContentAs true bad_lines bytes (InJson list) others = IsDocument bytes list × (others ≡ 0)
  IsContentAs false bad_lines bytes (InLines lines) others =
      AreGood strict bytes lines others [] × (bad_lines ≡ Refused → others ≡ 0)
  IsContentAs false bad_lines bytes (InJson list) others = ⊥

  -- what the file says, and how many lines are left out of it
  abbrev pub IsContent : BadLines → List ℕ → Content → ℕ → Type 0
  IsContent bad_lines bytes content others = IsContentAs (is_json bytes) bad_lines bytes content others

  abbrev pub IsAddedAs : Bool → BadLines → List ℕ → (Family → ℕ → Type 0)
      → (Family → ℕ → Type 0) → ℕ → Type 0
  IsAddedAs told bad_lines bytes Before After others = (content : Content)
      × IsContentAs told bad_lines bytes content others × AreAdded Before After (IsSaidIn content)

  -- what the file says is added
  abbrev pub IsAdded : BadLines → List ℕ → (Family → ℕ → Type 0) → (Family → ℕ → Type 0) → ℕ
      → Type 0
  IsAdded bad_lines bytes Before After others =
      IsAddedAs (is_json bytes) bad_lines bytes Before After others

  -- why JSON is not read, and lines: for no bad line where these are left out
  abbrev pub IsReasonAs : Bool → BadLines → List ℕ → ListError → Type 0
  IsReasonAs true bad_lines bytes error = IsJsonReason bytes error
  IsReasonAs false bad_lines bytes error = HasFault strict bytes error
      × (bad_lines ≡ Skipped → (error ≡ Unread) ⊎ (error ≡ Memory))

  -- why the file is not read
  abbrev pub IsFileReason : BadLines → List ℕ → ListError → Type 0
  IsFileReason bad_lines bytes error = IsReasonAs (is_json bytes) bad_lines bytes error
