-- What is read next, and why a list is not read.
use Rattle.std.specs.Prelude.{◌≡◌, ◌≢◌, ℕ, ◌+◌, ◌-◌, ◌≤◌, ◌⊎◌, Bool, true, List, [], ◌++◌, length, drop, take, Option, None, Some, IfSome}
use Rattle.std.specs.Io.BufRead.{drop_through, take_through}
use Rattle.address_text.specs.Faults.{IsFault}
use Rattle.std.specs.List.{list_all}
use Rattle.address_text.specs.Starts.{HasOneFault, IsBadStart, OpensComment, is_plain}
use Rattle.address_text.specs.Lines.{AreAddresses, Says, SaysAddress, content}
use Rattle.address_text.specs.declared.family.Family.{Family}
use Rattle.address_text.specs.declared.line.Line.{Line}
use Rattle.line_program.specs.Lines.{IsNextLine}
use Rattle.address_lists.specs.Lists.{AreAdded, AreSaid, SaysNothingKnown}
use Rattle.address_lists.specs.declared.read.Found.{Found}
use Rattle.address_lists.specs.declared.read.Found.TheVariants.{Good, Other, End}
use Rattle.address_lists.specs.declared.read.ListError.{ListError}
use Rattle.address_lists.specs.declared.read.ListError.TheVariants.{BadLine, Json, Memory, Unread}

-- the bytes are the first ones that stand in a line from a column on, up to a comment
abbrev pub IsFoundAt : List ℕ → ℕ → List ℕ → Type 0
IsFoundAt line column found = found ≡ take 40 (content (drop (column - 1) line))

-- no contract tells when a disk fails, or when an allocation is refused
abbrev pub MayFail : Type 0
MayFail = Unit {0}

-- the text is bad whatever comes next
abbrev pub IsHopeless : List ℕ → Type 0
IsHopeless text = (text ≢ []) × (list_all is_plain text ≡ true) × HasOneFault text
    × IsBadStart text

-- the text is a line, or its start, which is bad whatever comes next, or has its comment sign
abbrev pub IsShown : List ℕ → List ℕ → Type 0
IsShown text line = (text ≡ line)
    ⊎ ((rest : List ℕ) × (line ≡ text ++ rest) × (IsHopeless text ⊎ OpensComment text))

-- the text shows the first line of the bytes, and these are left behind it
abbrev pub IsNextShown : List ℕ → Option (List ℕ) → List ℕ → Type 0
IsNextShown bytes later text = (bytes ≢ []) × (later ≡ Some (drop_through 10 bytes))
    × IsShown text (take_through 10 bytes)

-- the text is the start of each line that begins so, and shows it
abbrev pub ShowsEach : List ℕ → Type 0
ShowsEach text = (text ≢ [])
    × ((rest : List ℕ) → IsShown text (take_through 10 (text ++ rest)))

module _ (strict : Bool) where
  -- what a line says, or that it says nothing known
  abbrev pub IsSaid : List ℕ → Option Line → Type 0
  IsSaid text (Some line) = AreAddresses line × Says strict text line
  IsSaid text None = SaysNothingKnown strict text

  -- a line is taken in: what it says is added, or it says nothing known and is left out
  abbrev pub IsTakenIn : List ℕ → (Family → ℕ → Type 0) → (Family → ℕ → Type 0) → ℕ → Type 0
  IsTakenIn text Before After others =
      ((said : Line) × Says strict text said
      × AreAdded Before After (λ family n. SaysAddress family n said) × (others ≡ 0))
      ⊎ (SaysNothingKnown strict text × AreAdded Before After (λ family n. ⊥) × (others ≡ 1))

  -- what is read next, of the input before and after
  abbrev pub IsFound : Option (List ℕ) → Option (List ℕ) → Found → Type 0
  IsFound left later (Good line) =
      AreAddresses line × IsNextLine left later (λ text. Says strict text line)
  IsFound left later Other = IsNextLine left later (SaysNothingKnown strict)
  IsFound left later End = IfSome left (λ bytes. bytes ≡ [])

  -- a line says nothing that is known, this is its number, and this was expected in the column
  -- where the part begins that is wrong, or at the line's end, and that stands there
  abbrev pub IsBadLine : List ℕ → ℕ → ListError → Type 0
  IsBadLine text number (BadLine line column expected found) =
      (line ≡ number) × (1 ≤ column) × (column ≤ length text + 1) × IsFault text column expected
      × IsFoundAt text column found × SaysNothingKnown strict text
  IsBadLine text number Unread = ⊥
  IsBadLine text number Memory = ⊥
  IsBadLine text number (Json fault) = ⊥

  -- a bad line is the first of the bytes, and this is its number
  abbrev pub IsBad : List ℕ → ℕ → ListError → Type 0
  IsBad bytes number (BadLine line column expected found) = (bytes ≢ [])
      × IsBadLine (take_through 10 bytes) number (BadLine line column expected found)
  IsBad bytes number Unread = MayFail
  IsBad bytes number Memory = MayFail
  IsBad bytes number (Json fault) = ⊥

  -- all lines before a bad one say something, and they are counted from this number
  abbrev pub HasFaultFrom : ℕ → List ℕ → ListError → Type 0
  HasFaultFrom first bytes error = (lines : List Line) × (rest : List ℕ)
      × AreSaid strict bytes lines rest × IsBad rest (length lines + first) error

  abbrev pub HasFault : List ℕ → ListError → Type 0
  HasFault bytes error = HasFaultFrom 1 bytes error
