-- Prefixes that are divided at no length are whole.
use Rattle.std.proofs.Common.{arith, ◌≡◌, ℕ, List, [], ◌∷◌, inl, inr}
use Rattle.btree_range_map.specs.AnyRange.{AnyRange}
use Rattle.btree_range_map.specs.Order.{KeyOrder}
use Rattle.line_program.specs.Listing.{SpellsEach}
use Rattle.address_prefixes.specs.declared.prefix.Prefix.{Prefix}
use Rattle.address_text.specs.Texts.{prefix_line}
use Rattle.address_text.specs.declared.family.Family.{Family}
use Rattle.address_lists.specs.Printed.{ArePrinted, IsPrinted, prefix_of}
use Rattle.address_lists.specs.Split.{AreSplit, IsPrintedSplit, IsSplit, IsSplitLength, IsSplitText}
use Rattle.address_lists.specs.declared.addresses.Addresses.{Addresses}
use Rattle.std.proofs.Common.{rules}

module _ (before after : List ℕ) where
  line_whole : (family : Family) (own network length : ℕ) (text : List ℕ)
      → IsSplitLength [] family own length
      → IsSplitText before after family length own network text
      → text ≡ prefix_line before after family network own
  line_whole family own network length text (inl (serves, least)) split =
      absurd (omega (arith, serves.0.1))
  line_whole family own network length text (inr (none, same)) (inl (divided, is)) =
      absurd (omega (arith, divided.0, same))
  line_whole family own network length text (inr (none, same)) (inr (other, is)) = is

  module _ {A : Type 0} (family : Family) (number : A → ℕ) where
    lines_whole : (prefixes : List (Prefix A)) (text : List ℕ)
        → SpellsEach (IsSplit before after family number []) prefixes text
        → SpellsEach (λ prefix line. line ≡ prefix_of before after family number prefix) prefixes text
    lines_whole [] text none = none
    lines_whole (prefix ∷ prefixes) text (line, lines, (length, split, one), rest, is) = (
      line,
      lines,
      line_whole family prefix.length (number prefix.network) length line split one,
      lines_whole prefixes lines rest,
      is,
    )

    set_whole : (order : KeyOrder A) (width : ℕ) (ranges : List (AnyRange A)) (text : List ℕ)
        → AreSplit before after family number [] order width ranges text
        → ArePrinted before after family number order width ranges text
    set_whole order width ranges text split = grind (arith, lines_whole)

  pub printed_whole : (list : Addresses) (text : List ℕ) → IsPrintedSplit before after [] list text
      → IsPrinted before after list text
  printed_whole list text (first, second, v4, v6, is) = search (rules, set_whole)
