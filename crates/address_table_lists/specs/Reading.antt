-- The rows of a table that is read, and why one is not read.
use Rattle.std.specs.Prelude.{◌≡◌, ◌≢◌, ◌+◌, ℕ, suc, Bool, true, false, List, [], ◌∷◌, Option, IfSome, length}
use Rattle.std.specs.Io.BufRead.{drop_through, take_through}
use Rattle.address_rows.specs.Lines.{SaysRow}
use Rattle.address_rows.specs.Rows.{Row}
use Rattle.line_program.specs.Lines.{IsNextLine}
use Rattle.address_table_lists.specs.Rows.{HoldMore}
use Rattle.address_table_lists.specs.declared.read.Found.{Found}
use Rattle.address_table_lists.specs.declared.read.Found.TheVariants as Founds
use Rattle.address_table_lists.specs.declared.read.Reading.{Reading}
use Rattle.address_table_lists.specs.declared.read.TableError.{TableError}
use Rattle.address_table_lists.specs.declared.read.TableError.TheVariants.{BadLine, Memory, Unread}
use Rattle.address_table_lists.specs.declared.rows.Rows.{Rows}

-- what a line says, as it is read
abbrev pub SaysIn : Reading → List ℕ → Row → Type 0
SaysIn reading line row = SaysRow reading.layout reading.strict line row

-- a row that fits is added, or there is none
abbrev pub IsAddedIf : (Row → Type 0) → Rows → Rows → Bool → Type 0
IsAddedIf Fits old new true = (row : Row) × Fits row × HoldMore old new (row ∷ [])
IsAddedIf Fits old new false = ((row : Row) → ¬ Fits row) × (new ≡ old)

-- an error says that the line of this number is bad
abbrev pub IsBadOf : ℕ → TableError → Type 0
IsBadOf number (BadLine line column expected found) = line ≡ number
IsBadOf number Unread = ⊥
IsBadOf number Memory = ⊥

-- over what lines say, and which are left alone
module _ (Says : List ℕ → Row → Type 0) (Skipped : List ℕ → Type 0) where
  -- a line says nothing that is known, and is not left alone
  abbrev pub IsBadLine : List ℕ → Type 0
  IsBadLine line = (¬ Skipped line) × ((row : Row) → ¬ Says line row)

  -- what the lines of the input say, one after the other, how many of them are left alone and how
  -- many are bad, up to the rest of it
  pub data AreRead : List ℕ → List Row → ℕ → ℕ → List ℕ → Type 0 where
    Ended : (input : List ℕ) → AreRead input [] 0 0 input
    Said : (input : List ℕ) (row : Row) (rows : List Row) (skipped others : ℕ) (rest : List ℕ)
        → input ≢ [] → ¬ Skipped (take_through 10 input) → Says (take_through 10 input) row
        → AreRead (drop_through 10 input) rows skipped others rest
        → AreRead input (row ∷ rows) skipped others rest
    Nothing : (input : List ℕ) (rows : List Row) (skipped others : ℕ) (rest : List ℕ)
        → input ≢ [] → Skipped (take_through 10 input)
        → AreRead (drop_through 10 input) rows skipped others rest
        → AreRead input rows (suc skipped) others rest
    Other : (input : List ℕ) (rows : List Row) (skipped others : ℕ) (rest : List ℕ)
        → input ≢ [] → IsBadLine (take_through 10 input)
        → AreRead (drop_through 10 input) rows skipped others rest
        → AreRead input rows skipped (suc others) rest

  -- what is read next, of the input before and after, and what is held then
  abbrev pub IsFound : Option (List ℕ) → Option (List ℕ) → Rows → Rows → Found → Type 0
  IsFound left later old new Founds.Said =
      (row : Row) × IsNextLine left later (λ line. (¬ Skipped line) × Says line row) × HoldMore old new (row ∷ [])
  IsFound left later old new Founds.Nothing = IsNextLine left later Skipped × (new ≡ old)
  IsFound left later old new Founds.Other = IsNextLine left later IsBadLine × (new ≡ old)
  IsFound left later old new Founds.End = IfSome left (λ bytes. bytes ≡ []) × (new ≡ old)

  -- the first line of the bytes is bad, and this is its number
  abbrev pub IsBadRow : List ℕ → ℕ → TableError → Type 0
  IsBadRow bytes number (BadLine line column expected found) =
      (line ≡ number) × (bytes ≢ []) × IsBadLine (take_through 10 bytes)
  IsBadRow bytes number Unread = Unit {0}
  IsBadRow bytes number Memory = Unit {0}

  -- all lines before a bad one are good, and it is counted from 1
  abbrev pub HasRowFault : List ℕ → TableError → Type 0
  HasRowFault bytes error = (rows : List Row) × (skipped : ℕ) × (rest : List ℕ)
      × AreRead bytes rows skipped 0 rest × IsBadRow rest (length rows + skipped + 1) error
