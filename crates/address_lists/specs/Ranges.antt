-- The ranges of a list as they are printed, and its addresses one by one.
use Rattle.std.specs.Prelude.{◌≡◌, ℕ, ◌+◌, ◌-◌, ◌^◌, List, ◌++◌}
use Rattle.line_program.specs.Listing.{SpellsEach}
use Rattle.address_prefixes.specs.Runs.{AreRuns}
use Rattle.address_text.specs.Texts.{address_line, span_line, width}
use Rattle.address_text.specs.declared.family.Family.{Family}
use Rattle.address_text.specs.declared.family.Family.TheVariants.{V4, V6}
use Rattle.address_lists.specs.Lists.{Has}
use Rattle.address_lists.specs.Series.{series}
use Rattle.address_lists.specs.declared.addresses.Addresses.{Addresses}
use Rattle.address_lists.specs.declared.ranges.Spelling.{Spelling}
use Rattle.address_lists.specs.declared.ranges.Spelling.TheVariants.{Ends, Singles}

-- of lines with a text before each and one behind it
module _ (before after : List ℕ) where
  -- the text of a range: its ends on a line, or each of its addresses on one
  abbrev pub IsRangeText : Spelling → Family → ℕ × ℕ → List ℕ → Type 0
  IsRangeText Ends family range text = text ≡ span_line before after family range.0 range.1
  IsRangeText Singles family range text =
      text ≡ series (address_line before after family) 1 (range.1 + 1 - range.0) range.0

  -- the text is that of the ranges of the addresses of a list, each as wide as it goes, ascending
  pub record AreRangesPrinted (spelling : Spelling) (list : Addresses) (family : Family)
      (text : List ℕ) : Type 0 where
    pub ranges : List (ℕ × ℕ)
    pub whole : AreRuns (Has list family) (2 ^ width family) ranges
    pub spelled : SpellsEach (IsRangeText spelling family) ranges text

  -- those of IPv4, and then those of IPv6
  abbrev pub IsPrintedAs : Spelling → Addresses → List ℕ → Type 0
  IsPrintedAs spelling list text = (first : List ℕ) × (second : List ℕ)
      × AreRangesPrinted spelling list V4 first × AreRangesPrinted spelling list V6 second
      × (text ≡ first ++ second)
