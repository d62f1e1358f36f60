-- Rows that are added where they are said.
use Rattle.std.proofs.Common.{◌≡◌, ℕ, Bool, true, false, List, inl, inr, sym, subst, ◌∙◌}
use Rattle.std.specs.Prelude.{Err, IfOk, Ok, Result}
use Rattle.std.specs.List.{after_first, before_first}
use Rattle.std.specs.Str.{IsUtf8}
use Rattle.address_text.specs.Lines.{HasByte, trimmed}
use Rattle.address_rows.specs.Lines.{AreRecord, IsDecimalRow, IsRow, SaysFields, SaysRecord, SaysRow, is_comma, is_quote}
use Rattle.address_rows.specs.Rows.{Row}
use Rattle.address_rows.specs.declared.line.Layout.TheVariants as Laid
use Rattle.address_table_lists.specs.Reading.{IsAddedIf}
use Rattle.address_table_lists.specs.declared.rows.Rows.{Rows}

-- what is said in one way is said in another
abbrev SaysAlike : (Row → Type 0) → (Row → Type 0) → Type 0
SaysAlike P Q = ((row : Row) → P row → Q row) × ((row : Row) → Q row → P row)

module _ {E : Type 0} (old new : Rows) (result : Result Bool E) where
  abbrev IsAdded : (Row → Type 0) → Type 0
  IsAdded P = IfOk result (IsAddedIf P old new)

  added_as : (P Q : Row → Type 0) → SaysAlike P Q → IsAdded P → IsAdded Q
  added_as P Q alike = by_result result
    where
      by_result : (r : Result Bool E) → IfOk r (IsAddedIf P old new) → IfOk r (IsAddedIf Q old new)
      by_result (Err error) added = tt
      by_result (Ok true) (row, says, held) = (row, alike.0 row says, held)
      by_result (Ok false) (none, same) = (λ row says. none row (alike.1 row says), same)

  -- the two fields of a text with quotes
  pub record_added : (strict : Bool) (text first second : List ℕ) → AreRecord text first second
      → IsAdded (IsRow strict first second) → IsAdded (SaysRecord strict text)
  record_added strict text first second is =
      added_as (IsRow strict first second) (SaysRecord strict text) (
        λ row says. (first, second, is, says),
        λ row (a, b, other, says). same_fields a b other row says,
      )
    where
      same_fields : (a b : List ℕ) → AreRecord text a b → (row : Row) → IsRow strict a b row
          → IsRow strict first second row
      same_fields a b other row says =
          let one : a ≡ first = cc in
          let two : b ≡ second = cc in
          subst (λ f. IsRow strict f second row) one (subst (λ s. IsRow strict a s row) two says)

  -- a text with a quote
  pub quoted_added : (strict : Bool) (text : List ℕ) → HasByte is_quote text
      → IsAdded (SaysRecord strict text) → IsAdded (SaysFields strict text)
  quoted_added strict text quote = added_as (SaysRecord strict text) (SaysFields strict text) (
    λ row (a, b, is, says). (a, b, inl (quote, is), says),
    λ row (a, b, either, says). elim either [
      | inl is ↦ (a, b, is.1, says)
      | inr plain ↦ absurd (plain.0 quote)
    ],
  )

  -- a text with one comma and no quote
  pub plain_added : (strict : Bool) (text first second : List ℕ) → ¬ HasByte is_quote text
      → HasByte is_comma text → first ≡ before_first is_comma text
      → second ≡ after_first is_comma text → ¬ HasByte is_comma second
      → IsAdded (IsRow strict first second) → IsAdded (SaysFields strict text)
  plain_added strict text first second none comma one two alone =
      added_as (IsRow strict first second) (SaysFields strict text) (
        λ row says. (first, second, inr (none, comma, one, two, alone), says),
        λ row (a, b, either, says). elim either [
          | inl is ↦ absurd (none is.0)
          | inr plain ↦ subst (λ f. IsRow strict f second row) (plain.2 ∙ sym one)
              (subst (λ s. IsRow strict a s row) (plain.3 ∙ sym two) says)
        ],
      )

  -- a line in each layout
  pub csv_added : (strict : Bool) (line text : List ℕ) → IsUtf8 (trimmed line) → text ≡ trimmed line
      → IsAdded (SaysFields strict text) → IsAdded (SaysRow Laid.Csv strict line)
  csv_added strict line text utf8 is =
      added_as (SaysFields strict text) (SaysRow Laid.Csv strict line) (
        λ row says. (utf8, subst (λ t. SaysFields strict t row) is says),
        λ row says. subst (λ t. SaysFields strict t row) (sym is) says.1,
      )

  pub decimal_added : (strict : Bool) (line text : List ℕ) → IsUtf8 (trimmed line) → text ≡ trimmed line
      → IsAdded (IsDecimalRow text) → IsAdded (SaysRow Laid.Decimal strict line)
  decimal_added strict line text utf8 is =
      added_as (IsDecimalRow text) (SaysRow Laid.Decimal strict line) (
        λ row says. (utf8, subst (λ t. IsDecimalRow t row) is says),
        λ row says. subst (λ t. IsDecimalRow t row) (sym is) says.1,
      )
