-- What files are read as, and why one is not read.
use Rattle.std.specs.Prelude.{◌≡◌, ℕ, ◌⊎◌, Option, Some, List, [], ◌∷◌, ◌++◌, map, String}
use Rattle.std.specs.declared.alloc.Global.{Global}
use Rattle.address_lists.specs.Files.{IsFileReason}
use Rattle.address_lists.specs.Reading.{MayFail}
use Rattle.address_lists.specs.declared.read.BadLines.TheVariants.{Refused, Skipped}
use Rattle.address_lists.specs.declared.read.ListError.TheVariants as Lists
use Rattle.address_rows.specs.Lines.{IsSkipped}
use Rattle.address_rows.specs.Rows.{Row}
use Rattle.address_table_lists.specs.Reading.{AreRead, HasRowFault, SaysIn}
use Rattle.address_table_lists.specs.declared.read.Reading.{Reading}
use Rattle.address_table_lists.specs.declared.read.TableError.{TableError}
use Rattle.address_table_lists.specs.declared.read.TableError.TheVariants as Tables
use Rattle.address_table_commands.specs.declared.source.Stop.{Stop}
use Rattle.address_table_commands.specs.declared.source.Stop.TheVariants.{BadList, BadTable, Memory, Unwritable}

-- these are the bytes of the inputs
abbrev pub AreKnown : List (Option (List ℕ)) → List (List ℕ) → Type 0
AreKnown [] [] = Unit {0}
AreKnown [] (bytes ∷ files) = ⊥
AreKnown (input ∷ inputs) [] = ⊥
AreKnown (input ∷ inputs) (bytes ∷ files) = (input ≡ Some bytes) × AreKnown inputs files

-- how many lines are left out of each table
abbrev pub left_out_of : List (List Row × ℕ) → List ℕ
left_out_of tables = map (λ (table : List Row × ℕ). table.1) tables

-- what the tables say, one after the other
abbrev pub rows_of : List (List Row × ℕ) → List Row
rows_of [] = []
rows_of (table ∷ tables) = table.0 ++ rows_of tables

module _ (reading : Reading) (header : List ℕ) where
  -- what a file says, and how many lines are left out of it: none where they are refused
  abbrev pub IsTable : List ℕ → List Row × ℕ → Type 0
  IsTable bytes table = (skipped : ℕ)
      × AreRead (SaysIn reading) (IsSkipped header) bytes table.0 skipped table.1 []
      × (reading.bad_lines ≡ Refused → table.1 ≡ 0)

  -- that of each file
  abbrev pub AreTables : List (List ℕ) → List (List Row × ℕ) → Type 0
  AreTables [] [] = Unit {0}
  AreTables [] (table ∷ tables) = ⊥
  AreTables (bytes ∷ files) [] = ⊥
  AreTables (bytes ∷ files) (table ∷ tables) = IsTable bytes table × AreTables files tables

  -- why a file is not read: for no bad line where these are left out
  abbrev pub IsTableReason : List ℕ → TableError → Type 0
  IsTableReason bytes error = HasRowFault (SaysIn reading) (IsSkipped header) bytes error
      × (reading.bad_lines ≡ Skipped → (error ≡ Tables.Unread) ⊎ (error ≡ Tables.Memory))

  -- the first file that is not read has this name and this reason; the files before it are read
  abbrev pub IsBadAmong : List (String Global) → List (List ℕ) → String Global → TableError
      → Type 0
  IsBadAmong [] files name error = ⊥
  IsBadAmong (first ∷ names) [] name error = ⊥
  IsBadAmong (first ∷ names) (bytes ∷ files) name error =
      ((name ≡ first) × IsTableReason bytes error)
      ⊎ ((table : List Row × ℕ) × IsTable bytes table × IsBadAmong names files name error)

  -- the commands stop for this reason, before any list is read
  abbrev pub IsStop : List (String Global) → List (List ℕ) → Stop → Type 0
  IsStop names files (BadTable name error) = IsBadAmong names files name error
  IsStop names files (BadList name error) = ⊥
  IsStop names files Memory = MayFail
  IsStop names files Unwritable = MayFail

-- a file cannot be read
abbrev pub IsReadFailure : Stop → Type 0
IsReadFailure (BadTable name error) = error ≡ Tables.Unread
IsReadFailure (BadList name error) = error ≡ Lists.Unread
IsReadFailure Memory = ⊥
IsReadFailure Unwritable = ⊥

-- a list stops them
abbrev pub IsListReason : Reading → String Global → List ℕ → Stop → Type 0
IsListReason reading name bytes (BadTable bad error) = ⊥
IsListReason reading name bytes (BadList bad error) =
    (bad ≡ name) × IsFileReason reading.strict reading.bad_lines bytes error
IsListReason reading name bytes Memory = MayFail
IsListReason reading name bytes Unwritable = MayFail

-- a table stops them, or all tables are read and the list stops them
abbrev pub IsPartStop : Reading → List ℕ → List (String Global) → List (List ℕ) → String Global
    → List ℕ → Stop → Type 0
IsPartStop reading header names files name bytes stop = IsStop reading header names files stop
    ⊎ ((tables : List (List Row × ℕ)) × AreTables reading header files tables
    × IsListReason reading name bytes stop)
