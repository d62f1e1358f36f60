-- The prefixes of a list as they are printed.
use Rattle.std.specs.Prelude.{◌≡◌, ℕ, List, ◌++◌}
use Rattle.std.specs.List.{AllByRecursion}
use Rattle.btree_range_map.specs.AnyRange.{AnyRange}
use Rattle.btree_range_map.specs.FreeRanges.{item_ranges}
use Rattle.btree_range_map.specs.Holding.{box_items}
use Rattle.btree_range_map.specs.Order.{KeyOrder}
use Rattle.line_program.specs.Listing.{SpellsEach}
use Rattle.address_keys.specs.Addresses.{ipv4_number, ipv4_order, ipv6_number, ipv6_order}
use Rattle.address_prefixes.specs.Prefixes.{AreAscending, AreFewest, HaveJust, IsPrefix}
use Rattle.address_prefixes.specs.declared.prefix.Prefix.{Prefix}
use Rattle.address_text.specs.Texts.{prefix_line}
use Rattle.address_text.specs.declared.family.Family.{Family}
use Rattle.address_text.specs.declared.family.Family.TheVariants.{V4, V6}
use Rattle.address_lists.specs.declared.addresses.Addresses.{Addresses}

-- of lines with a text before each and one behind it
module _ (before after : List ℕ) where
  -- the line of a prefix
  abbrev pub prefix_of : {A : Type 0} → Family → (A → ℕ) → Prefix A → List ℕ
  prefix_of family number prefix =
      prefix_line before after family (number prefix.network) prefix.length

  -- the text is that of prefixes, a line each, which have just the addresses of the ranges,
  -- ascending and as few as can be
  pub record ArePrinted {A : Type 0} (family : Family) (number : A → ℕ) (order : KeyOrder A)
      (width : ℕ) (ranges : List (AnyRange A)) (text : List ℕ) : Type 0 where
    pub prefixes : List (Prefix A)
    pub exact : HaveJust number order prefixes ranges
    pub whole : AllByRecursion (IsPrefix number width) prefixes
    pub ascending : AreAscending number prefixes
    pub fewest : AreFewest number order width prefixes ranges
    pub spelled : SpellsEach (λ prefix line. line ≡ prefix_of family number prefix) prefixes text

  -- those of IPv4, and then those of IPv6
  abbrev pub IsPrinted : Addresses → List ℕ → Type 0
  IsPrinted list text = (first : List ℕ) × (second : List ℕ)
      × ArePrinted V4 ipv4_number ipv4_order 32 (item_ranges (box_items list.v4)) first
      × ArePrinted V6 ipv6_number ipv6_order 128 (item_ranges (box_items list.v6)) second
      × (text ≡ first ++ second)
