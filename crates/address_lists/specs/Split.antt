-- Prefixes that are printed as others of a greater length.
use Rattle.std.specs.Prelude.{◌≡◌, ℕ, ◌-◌, ◌^◌, ◌≤◌, ◌<◌, ◌⊎◌, Option, None, Some, List, ◌++◌}
use Rattle.std.specs.List.{AllByRecursion, Contains}
use Rattle.btree_range_map.specs.AnyRange.{AnyRange}
use Rattle.btree_range_map.specs.FreeRanges.{item_ranges}
use Rattle.btree_range_map.specs.Holding.{box_items}
use Rattle.btree_range_map.specs.Order.{KeyOrder}
use Rattle.line_program.specs.Listing.{SpellsEach}
use Rattle.address_keys.specs.Addresses.{ipv4_number, ipv4_order, ipv6_number, ipv6_order}
use Rattle.address_prefixes.specs.Prefixes.{AreAscending, AreFewest, HaveJust, IsPrefix}
use Rattle.address_prefixes.specs.declared.prefix.Prefix.{Prefix}
use Rattle.address_text.specs.Texts.{prefix_line, width}
use Rattle.address_text.specs.declared.family.Family.{Family}
use Rattle.address_text.specs.declared.family.Family.TheVariants.{V4, V6}
use Rattle.address_lists.specs.Series.{series}
use Rattle.address_lists.specs.declared.addresses.Addresses.{Addresses}

-- one of the lengths is that of a prefix, or greater, and addresses have so many bits
abbrev pub IsServing : List ℕ → Family → ℕ → ℕ → Type 0
IsServing lengths family prefix_length length =
    Contains lengths length × (prefix_length ≤ length) × (length ≤ width family)

-- the least of such lengths, where there is one
abbrev pub IsLeastServing : List ℕ → Family → ℕ → Option ℕ → Type 0
IsLeastServing lengths family prefix_length None =
    (other : ℕ) → ¬ IsServing lengths family prefix_length other
IsLeastServing lengths family prefix_length (Some length) =
    IsServing lengths family prefix_length length
    × ((other : ℕ) → IsServing lengths family prefix_length other → length ≤ other)

-- at this length a prefix is divided: at the least that serves, or at its own, so that it is whole
abbrev pub IsSplitLength : List ℕ → Family → ℕ → ℕ → Type 0
IsSplitLength lengths family prefix_length length =
    IsLeastServing lengths family prefix_length (Some length)
    ⊎ (IsLeastServing lengths family prefix_length None × (length ≡ prefix_length))

-- a prefix of a length is shorter than another length that addresses have
abbrev pub IsDivisible : Family → ℕ → ℕ → Type 0
IsDivisible family length prefix_length = (prefix_length < length) × (length ≤ width family)

-- of lines with a text before each and one behind it
module _ (before after : List ℕ) where
  -- the lines of so many prefixes of a length, one after the other, from an address on
  abbrev pub part_lines : Family → ℕ → ℕ → ℕ → List ℕ
  part_lines family length count network =
      series (λ n. prefix_line before after family n length) (2 ^ (width family - length)) count
      network

  -- the lines of the prefixes of the length that have the addresses of a prefix, or its own where
  -- it is not divided
  abbrev pub IsSplitText : Family → ℕ → ℕ → ℕ → List ℕ → Type 0
  IsSplitText family length prefix_length network text =
      (IsDivisible family length prefix_length
      × (text ≡ part_lines family length (2 ^ (length - prefix_length)) network))
      ⊎ ((¬ IsDivisible family length prefix_length)
      × (text ≡ prefix_line before after family network prefix_length))

  module _ {A : Type 0} (family : Family) (number : A → ℕ) (lengths : List ℕ) where
    abbrev pub IsSplit : Prefix A → List ℕ → Type 0
    IsSplit prefix text = (length : ℕ) × IsSplitLength lengths family prefix.length length
        × IsSplitText family length prefix.length (number prefix.network) text

    -- the text is that of prefixes which have just the addresses of the ranges, ascending and as
    -- few as can be, each of them split
    pub record AreSplit (order : KeyOrder A) (bits : ℕ) (ranges : List (AnyRange A))
        (text : List ℕ) : Type 0 where
      pub prefixes : List (Prefix A)
      pub exact : HaveJust number order prefixes ranges
      pub whole : AllByRecursion (IsPrefix number bits) prefixes
      pub ascending : AreAscending number prefixes
      pub fewest : AreFewest number order bits prefixes ranges
      pub spelled : SpellsEach IsSplit prefixes text

  -- those of one family
  abbrev pub IsFamilySplit : Family → List ℕ → Addresses → List ℕ → Type 0
  IsFamilySplit V4 lengths list text =
      AreSplit V4 ipv4_number lengths ipv4_order 32 (item_ranges (box_items list.v4)) text
  IsFamilySplit V6 lengths list text =
      AreSplit V6 ipv6_number lengths ipv6_order 128 (item_ranges (box_items list.v6)) text

  -- those of IPv4, and then those of IPv6
  abbrev pub IsPrintedSplit : List ℕ → Addresses → List ℕ → Type 0
  IsPrintedSplit lengths list text = (first : List ℕ) × (second : List ℕ)
      × IsFamilySplit V4 lengths list first × IsFamilySplit V6 lengths list second
      × (text ≡ first ++ second)
