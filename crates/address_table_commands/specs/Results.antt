-- The table that files say, and what is printed of it.
use Rattle.std.specs.Prelude.{◌≡◌, ℕ, Option, None, Some, List, [], ◌∷◌, ◌++◌}
use Rattle.address_lists.specs.declared.addresses.Addresses.{Addresses}
use Rattle.address_rows.specs.Rows.{IsAt, Row}
use Rattle.address_rows.specs.Texts.{AreDifferent}
use Rattle.address_table_lists.specs.Parts.{AreAllBut, AreOnly, IsSelected}
use Rattle.address_table_lists.specs.Printed.{IsShown}
use Rattle.address_table_lists.specs.Rows.{Hold}
use Rattle.address_table_lists.specs.Tables.{IsMadeOf, IsOfFamily}
use Rattle.address_table_lists.specs.declared.print.Defaults.{Defaults}
use Rattle.address_table_lists.specs.declared.print.Shape.{Shape}
use Rattle.address_table_lists.specs.declared.print.Shape.TheVariants as Shapes
use Rattle.address_table_lists.specs.declared.rows.Rows.{Rows}
use Rattle.address_table_lists.specs.declared.table.Precedence.{Precedence}
use Rattle.address_table_lists.specs.declared.table.Table.{Table}
use Rattle.address_text.specs.declared.family.Family.{Family}
use Rattle.address_text.specs.declared.family.Family.TheVariants.{V4, V6}
use Rattle.address_table_commands.specs.declared.print.Keeping.{Keeping}
use Rattle.address_table_commands.specs.declared.print.Keeping.TheVariants.{Only, Without}
use Rattle.address_table_commands.specs.declared.print.Outline.{Outline}
use Rattle.address_table_commands.specs.declared.print.Outline.TheVariants.{Disjoint, Ranges, Shortest}
use Rattle.address_table_commands.specs.declared.print.Output.{Output}
use Rattle.address_table_commands.specs.declared.table.Asked.{Asked}

-- the table of what is held, of one family or both, and the texts of its values
pub record IsMadeFrom (precedence : Precedence) (only : Option Family) (held : Rows)
    (texts : List (List ℕ)) (table : Table) : Type 0 where
  pub named : texts ≡ held.texts
  pub whole : Table
  pub made : IsMadeOf precedence held whole
  pub kept : IsOfFamily only whole table

-- the table of what the rows say
abbrev pub IsTableOf : Asked → List Row → List (List ℕ) → Table → Type 0
IsTableOf asked rows texts table = (held : Rows) × Hold held rows
    × IsMadeFrom asked.precedence asked.only held texts table

-- texts after which others come; still no text has two numbers
abbrev pub AreMoreTexts : List (List ℕ) → List (List ℕ) → Type 0
AreMoreTexts texts all = (more : List (List ℕ)) × (all ≡ texts ++ more)
    × (AreDifferent texts → AreDifferent all)

-- the value of all other addresses, of one family or both
abbrev pub defaults_of : ℕ → Option Family → Defaults
defaults_of value None = record { v4 = Some value; v6 = Some value }
defaults_of value (Some V4) = record { v4 = Some value; v6 = None }
defaults_of value (Some V6) = record { v4 = None; v6 = Some value }

-- the shape that is asked for, and all texts: those of the table, and the value of all other
-- addresses, where there is one
abbrev pub IsShapeOf : Outline → Option Family → List (List ℕ) → List (List ℕ) → Shape → Type 0
IsShapeOf Ranges only texts all shape = (shape ≡ Shapes.Ranges) × (all ≡ texts)
IsShapeOf Disjoint only texts all shape = (shape ≡ Shapes.Disjoint) × (all ≡ texts)
IsShapeOf (Shortest None) only texts all shape =
    (shape ≡ Shapes.Shortest (record { v4 = None; v6 = None })) × (all ≡ texts)
IsShapeOf (Shortest (Some value)) only texts all shape =
    (number : ℕ) × IsAt all number value.now × AreMoreTexts texts all
    × (shape ≡ Shapes.Shortest (defaults_of number only))

-- the text of a table
abbrev pub IsTextOf : Output → Option Family → List (List ℕ) → Table → List ℕ → Type 0
IsTextOf output only texts table text = (all : List (List ℕ)) × (shape : Shape)
    × IsShapeOf output.outline only texts all shape × IsShown shape output.form all table text

-- what is kept of a table: what it says of the addresses of the list, or of all others
abbrev pub IsPart : Keeping → Table → Addresses → Table → Type 0
IsPart Only table list part = AreOnly table list part
IsPart Without table list part = AreAllBut table list part

-- what is printed of the rows of tables
abbrev pub ArePrinted : Asked → Output → List Row → List ℕ → Type 0
ArePrinted asked output rows text = (texts : List (List ℕ)) × (table : Table)
    × IsTableOf asked rows texts table × IsTextOf output asked.only texts table text

-- and of what they say of some addresses
abbrev pub IsPartPrinted : Asked → Output → Keeping → List Row → Addresses → List ℕ → Type 0
IsPartPrinted asked output keeping rows list text = (texts : List (List ℕ)) × (table : Table)
    × (part : Table) × IsTableOf asked rows texts table × IsPart keeping table list part
    × IsTextOf output asked.only texts part text

-- the numbers of these values, among all texts
abbrev pub AreNumbers : List (List ℕ) → List (List ℕ) → List ℕ → Type 0
AreNumbers all [] [] = Unit {0}
AreNumbers all [] (number ∷ numbers) = ⊥
AreNumbers all (value ∷ values) [] = ⊥
AreNumbers all (value ∷ values) (number ∷ numbers) =
    IsAt all number value × AreNumbers all values numbers

-- the list has just the addresses that have one of the values
abbrev pub IsSelectedIn : List (List ℕ) → Table → List (List ℕ) → Addresses → Type 0
IsSelectedIn texts table values list = (all : List (List ℕ)) × (numbers : List ℕ)
    × AreMoreTexts texts all × AreNumbers all values numbers × IsSelected table numbers list

-- those of the table of what the rows say
abbrev pub IsSelectedOf : Asked → List (List ℕ) → List Row → Addresses → Type 0
IsSelectedOf asked values rows list = (texts : List (List ℕ)) × (table : Table)
    × IsTableOf asked rows texts table × IsSelectedIn texts table values list
