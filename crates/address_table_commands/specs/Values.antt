-- The values of addresses, and how many addresses each value has, as files say it.
use Rattle.std.specs.Prelude.{◌↔◌, ℕ, Bool, IsTrue, List, Option, map}
use Rattle.std.specs.List.{AllByRecursion}
use Rattle.std.specs.declared.net.ip_addr.IpAddr.{IpAddr}
use Rattle.line_program.specs.Listing.{SpellsEach, Writes}
use Rattle.address_rows.specs.Forms.{value_text}
use Rattle.address_rows.specs.Rows.{Row}
use Rattle.address_rows.specs.declared.forms.Form.TheVariants.{Lines}
use Rattle.address_table_lists.specs.Counts.{AreCounted}
use Rattle.address_table_lists.specs.Lookups.{HasValue, IsValueLine}
use Rattle.address_table_lists.specs.declared.table.Table.{Table}
use Rattle.address_table_commands.specs.Results.{IsTableOf}
use Rattle.address_table_commands.specs.declared.table.Asked.{Asked}

-- the value that the table of what the rows say gives to each address is told, a line each, and
-- whether each has one
abbrev pub AreTold : Asked → List Row → List IpAddr → Bool → Option (List ℕ) → Option (List ℕ)
    → Type 0
AreTold asked rows addresses all before after = (texts : List (List ℕ)) × (table : Table)
    × IsTableOf asked rows texts table
    × (IsTrue all ↔ AllByRecursion (HasValue table) addresses)
    × Writes before after
    (SpellsEach (IsValueLine (map (value_text Lines) texts) table) addresses)

-- how many addresses of that table have each value
abbrev pub AreCountsOf : Asked → List Row → List ℕ → Type 0
AreCountsOf asked rows text = (texts : List (List ℕ)) × (table : Table)
    × IsTableOf asked rows texts table × AreCounted table 0 texts text
