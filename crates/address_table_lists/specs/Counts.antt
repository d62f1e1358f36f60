-- How many addresses each value has, as it is printed.
use Rattle.std.specs.Prelude.{◌≡◌, ◌+◌, ℕ, List, [], ◌∷◌, ◌++◌, codes}
use Rattle.address_lists.specs.Counted.{IsCounted}
use Rattle.address_lists.specs.declared.addresses.Addresses.{Addresses}
use Rattle.address_table_lists.specs.Parts.{IsSelected}
use Rattle.address_table_lists.specs.declared.table.Table.{Table}

-- the lines of the addresses that have the value of this number, behind its text
abbrev pub IsCountOf : Table → ℕ → List ℕ → List ℕ → Type 0
IsCountOf table number value text = (list : Addresses) × IsSelected table (number ∷ []) list
    × IsCounted (value ++ codes " ") list text

-- the lines of values, which are numbered from the first on
abbrev pub AreCounted : Table → ℕ → List (List ℕ) → List ℕ → Type 0
AreCounted table number [] text = text ≡ []
AreCounted table number (value ∷ values) text = (lines : List ℕ) × (rest : List ℕ)
    × IsCountOf table number value lines × AreCounted table (number + 1) values rest
    × (text ≡ lines ++ rest)
