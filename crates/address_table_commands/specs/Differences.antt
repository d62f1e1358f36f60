-- Where two tables differ, and how that is printed.
use Rattle.std.specs.Prelude.{◌≡◌, ℕ, ◌⊎◌, ◌&&◌, String, Bool, true, false, nat_eq, if◌then◌else◌, List, [], ◌∷◌, ◌++◌, Option, None, Some, Result, Ok, bytes_eq, codes, get_or}
use Rattle.std.specs.Option.{option_eq}
use Rattle.std.specs.declared.alloc.Global.{Global}
use Rattle.std.specs.declared.convert.Infallible.{Infallible}
use Rattle.btree_range_map.specs.AnyRange.{AnyRange}
use Rattle.btree_range_map.specs.Canonical.{IsCanonical}
use Rattle.btree_range_map.specs.Combining.{AreCombined}
use Rattle.btree_range_map.specs.Holding.{box_items}
use Rattle.btree_range_map.specs.Item.{Item}
use Rattle.btree_range_map.specs.Order.{KeyOrder}
use Rattle.line_program.specs.Listing.{SpellsEach, Writes}
use Rattle.address_keys.specs.Addresses.{ipv4_number, ipv4_order, ipv6_number, ipv6_order}
use Rattle.address_prefixes.specs.Spans.{span}
use Rattle.address_rows.specs.Forms.{block_line}
use Rattle.address_rows.specs.Rows.{Row}
use Rattle.address_rows.specs.declared.forms.Form.TheVariants.{Lines}
use Rattle.address_rows.specs.declared.write.Block.TheVariants.{Range}
use Rattle.address_text.specs.declared.family.Family.{Family}
use Rattle.address_text.specs.declared.family.Family.TheVariants.{V4, V6}
use Rattle.address_table_lists.specs.declared.table.Table.{Table}
use Rattle.address_table_lists.specs.declared.read.Reading.{Reading}
use Rattle.address_table_commands.specs.Files.{AreTables, IsStop}
use Rattle.address_table_commands.specs.Results.{IsTableOf}
use Rattle.address_table_commands.specs.declared.differences.Change.{Change}
use Rattle.address_table_commands.specs.declared.differences.Changes.{Changes}
use Rattle.address_table_commands.specs.declared.differences.Extent.{Extent}
use Rattle.address_table_commands.specs.declared.differences.Extent.TheVariants.{All, First}
use Rattle.address_table_commands.specs.declared.source.Stop.{Stop}
use Rattle.address_table_commands.specs.declared.table.Asked.{Asked}

module _ (texts others : List (List ℕ)) where
  -- the values have the same text, or there is none in either table
  abbrev pub are_alike : Option ℕ → Option ℕ → Bool
  are_alike None None = true
  are_alike None (Some other) = false
  are_alike (Some value) None = false
  are_alike (Some value) (Some other) = bytes_eq (get_or texts value []) (get_or others other [])

  -- both values, where they are not alike
  abbrev pub change_of : Option ℕ → Option ℕ → Option Change
  change_of before after =
      if are_alike before after then None
      else Some (record { before = before; after = after })

  abbrev pub IsChangeOf : Option ℕ → Option ℕ → Result (Option Change) Infallible → Type 0
  IsChangeOf before after made = made ≡ Ok (change_of before after)

-- the same two values
abbrev pub change_eq : Change → Change → Bool
change_eq c d = option_eq nat_eq c.before d.before && option_eq nat_eq c.after d.after

module _ {A : Type 0} (order : KeyOrder A) (texts others : List (List ℕ)) where
  -- each address that has a value in either table has the change of the one value to the other, and
  -- the ranges of equal changes ascend and are as wide as they go
  pub record AreChanges (before after : List (Item (AnyRange A) ℕ))
      (changes : List (Item (AnyRange A) Change)) : Type 0 where
    pub made : AreCombined order nat_eq nat_eq change_eq (IsChangeOf texts others) before after
        changes
    pub canonical : IsCanonical order change_eq changes

-- so it is in both families
pub record AreTableChanges (texts : List (List ℕ)) (before : Table) (others : List (List ℕ))
    (after : Table) (changes : Changes) : Type 0 where
  pub v4 : AreChanges ipv4_order texts others (box_items before.v4) (box_items after.v4)
      (box_items changes.v4)
  pub v6 : AreChanges ipv6_order texts others (box_items before.v6) (box_items after.v6)
      (box_items changes.v6)

-- the text of a value, or `-` where there is none
abbrev pub told_value : List (List ℕ) → Option ℕ → List ℕ
told_value texts None = codes "-"
told_value texts (Some value) = get_or texts value []

-- a line `RANGE VALUE` behind a sign
abbrev pub side_line : Family → List ℕ → List (List ℕ) → ℕ × ℕ → Option ℕ → List ℕ
side_line family sign texts ends value =
    sign ++ block_line Lines family (Range ends.0 ends.1) (told_value texts value)

module _ (texts others : List (List ℕ)) where
  -- the line of the value before, and that of the value after
  abbrev pub change_lines : Family → ℕ × ℕ → Change → List ℕ
  change_lines family ends change = side_line family (codes "- ") texts ends change.before
      ++ side_line family (codes "+ ") others ends change.after

  module _ {A : Type 0} (family : Family) (number : A → ℕ) (width : ℕ) where
    -- those of a range
    abbrev pub IsChangeLines : Item (AnyRange A) Change → List ℕ → Type 0
    IsChangeLines i text = text ≡ change_lines family (span number width i.key) i.value

    -- those of the first address of the first range
    abbrev pub first_lines : List (Item (AnyRange A) Change) → List ℕ
    first_lines [] = []
    first_lines (i ∷ items) = change_lines family
        ((span number width i.key).0, (span number width i.key).0) i.value

-- there is none
abbrev pub is_none : {X : Type 0} → List X → Bool
is_none [] = true
is_none (x ∷ rest) = false

-- no address has a change
abbrev pub has_no_change : Changes → Bool
has_no_change changes = is_none (box_items changes.v4) && is_none (box_items changes.v6)

-- the lines of all ranges, those of IPv4 first; or those of the first address alone
abbrev pub IsListed : Extent → List (List ℕ) → List (List ℕ) → Changes → List ℕ → Type 0
IsListed All texts others changes text = (first : List ℕ) × (second : List ℕ)
    × SpellsEach (IsChangeLines texts others V4 ipv4_number 32) (box_items changes.v4) first
    × SpellsEach (IsChangeLines texts others V6 ipv6_number 128) (box_items changes.v6) second
    × (text ≡ first ++ second)
IsListed First texts others changes text = text
    ≡ (if is_none (box_items changes.v4)
    then first_lines texts others V6 ipv6_number 128 (box_items changes.v6)
    else first_lines texts others V4 ipv4_number 32 (box_items changes.v4))

-- whether the tables of the rows are alike, and the text that is printed of them
pub record AreCompared (asked : Asked) (extent : Extent) (rows other_rows : List Row)
    (alike : Bool) (text : List ℕ) : Type 0 where
  pub texts : List (List ℕ)
  pub others : List (List ℕ)
  pub before : Table
  pub after : Table
  pub changes : Changes
  pub first : IsTableOf asked rows texts before
  pub second : IsTableOf asked other_rows others after
  pub differ : AreTableChanges texts before others after changes
  pub told : alike ≡ has_no_change changes
  pub listed : IsListed extent texts others changes text

-- the files of the one table stop the command, or they are read and those of the other one stop it
abbrev pub IsPairStop : Reading → List ℕ → List (String Global) → List (List ℕ)
    → List (String Global) → List (List ℕ) → Stop → Type 0
IsPairStop reading header names files other_names others stop =
    IsStop reading header names files stop
    ⊎ ((said : List (List Row × ℕ)) × AreTables reading header files said
    × IsStop reading header other_names others stop)
