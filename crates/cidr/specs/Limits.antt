-- Lists that have few prefixes, and more addresses than others.
use Rattle.std.specs.Prelude.{◌≡◌, ℕ, ◌<◌, Option, None, Some, List}
use Rattle.btree_range_map.specs.AnyRange.{AnyRange}
use Rattle.btree_range_map.specs.FreeRanges.{item_ranges}
use Rattle.btree_range_map.specs.Holding.{box_items}
use Rattle.btree_range_map.specs.Item.{Item}
use Rattle.btree_range_map.specs.Order.{KeyOrder}
use Rattle.btree_range_map.specs.Together.{BindKeysOf}
use Rattle.address_covers.specs.Covers.{AreAdded, AreLeast, HaveAtMost}
use Rattle.address_keys.specs.Addresses.{ipv4_number, ipv4_order, ipv6_number, ipv6_order}
use Rattle.address_lists.specs.declared.addresses.Addresses.{Addresses}
use Rattle.cidr_arguments.specs.declared.request.Output.{Output}
use Rattle.cidr.specs.Shown.{IsShown}
use Rattle.cidr.specs.declared.limit.Added.{Added}

-- the second set has all addresses of the first and so many more, at most so many prefixes have
-- just these, and no prefixes that are at most as many and have those of the first have fewer
pub record IsLeastCover {A : Type 0} (number : A → ℕ) (order : KeyOrder A) (width most : ℕ)
    (items cover : List (Item (AnyRange A) (Unit {0}))) (more : ℕ) : Type 0 where
  pub covers : BindKeysOf order items cover
  pub within : HaveAtMost number order width most (item_ranges cover)
  pub least : AreLeast number order width most items cover
  pub added : AreAdded order items cover more

-- so it is of both families
abbrev pub IsCovered : ℕ → Addresses → Addresses → Added → Type 0
IsCovered most list new added =
    IsLeastCover ipv4_number ipv4_order 32 most (box_items list.v4) (box_items new.v4) added.v4
    × IsLeastCover ipv6_number ipv6_order 128 most (box_items list.v6) (box_items new.v6) added.v6

-- nothing is added
abbrev pub IsSame : Addresses → Addresses → Added → Type 0
IsSame list new added = (new ≡ list) × (added.v4 ≡ 0) × (added.v6 ≡ 0)

-- a list in place of another, where at most so many prefixes of each family are printed
abbrev pub IsLimited : Option ℕ → Addresses → Addresses → Added → Type 0
IsLimited None list new added = IsSame list new added
IsLimited (Some most) list new added =
    (0 < most → IsCovered most list new added) × (most ≡ 0 → IsSame list new added)

-- such a list is shown
abbrev pub IsShownWithin : Output → Addresses → Added → List ℕ → Type 0
IsShownWithin output list added text = (new : Addresses) × IsLimited output.most list new added
    × IsShown output.form output.only new text
