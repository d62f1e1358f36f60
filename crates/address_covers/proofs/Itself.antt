-- A set to whose addresses none have to be added, since few prefixes have just these.
use Rattle.std.proofs.Common.{◌≡◌, ℕ, ◌≤◌, ◌^◌, ◌↔◌, Bool, true, List, map, length, arith}
use Rattle.std.specs.List.{AllByRecursion}
use Rattle.std.specs.Prelude.{IsTrue}
use Rattle.btree_range_map.specs.AnyRange.{AnyRange}
use Rattle.btree_range_map.specs.FreeRanges.{item_ranges}
use Rattle.btree_range_map.specs.Item.{Item}
use Rattle.btree_range_map.specs.KeySets.{HoldsKey}
use Rattle.btree_range_map.specs.Order.{KeyOrder}
use Rattle.address_keys.specs.Families.{IsFamily}
use Rattle.address_prefixes.specs.Prefixes.{AreFewest, HaveJust, IsPrefix, SomeHasAddress}
use Rattle.address_prefixes.specs.declared.prefix.Prefix.{Prefix}
use Rattle.least_covers.proofs.Counts.{counts_le}
use Rattle.least_covers.specs.Covers.{are_held}
use Rattle.least_covers.specs.declared.blocks.Block.{Block}
use Rattle.address_covers.specs.Covers.{AreAdded, AreLeast, HaveAtMost}
use Rattle.address_covers.proofs.Numbers.{by_number, key_at, number_is}
use Rattle.address_covers.proofs.Prefixes.{block_of, prefixes_hold}
use Rattle.address_covers.proofs.Theorem.{stored_holds}

module _ {A : Type 0} {order : KeyOrder A} {number : A → ℕ} {at : ℕ → A} {width : ℕ}
    (family : IsFamily order number at width) where
  -- prefixes have an address just where their blocks hold its number
  tested : (ps : List (Prefix A)) → AllByRecursion (IsPrefix number width) ps → (a : A)
      → order.is_key a
      → SomeHasAddress number ps a ↔ (are_held width (map (block_of family) ps) (number a) ≡ true)
  tested ps whole a key = prefixes_hold family ps whole a (family.counted.in_size a key)

  module _ (items : List (Item (AnyRange A) (Unit {0}))) (most : ℕ) where
    -- so does a set that they have just the addresses of
    set_tested : (ps : List (Prefix A)) → AllByRecursion (IsPrefix number width) ps
        → HaveJust number order ps (item_ranges items) → (a : A) → order.is_key a
        → HoldsKey order items a ↔ (are_held width (map (block_of family) ps) (number a) ≡ true)
    set_tested ps whole just a key =
        let stored = stored_holds order items a in
        let same = just a key in
        let held = tested ps whole a key in
        (λ h. held.0 (same.1 (stored.0 h)), λ t. stored.1 (same.0 (held.1 t)))

    within_few : (ps : List (Prefix A)) → AreFewest number order width ps (item_ranges items)
        → HaveAtMost number order width most (item_ranges items) → length ps ≤ most
    within_few ps fewest (others, whole, just, few) =
        let fewer = fewest others whole just in omega (arith, fewer, few)

    -- some prefixes are at most as many just where the fewest are
    pub few_within : (ps : List (Prefix A)) → AllByRecursion (IsPrefix number width) ps
        → HaveJust number order ps (item_ranges items)
        → AreFewest number order width ps (item_ranges items) → (few : Bool)
        → IsTrue few ↔ (length ps ≤ most)
        → IsTrue few ↔ HaveAtMost number order width most (item_ranges items)
    few_within ps whole just fewest few is =
        (λ yes. (ps, whole, just, is.0 yes), λ has. is.1 (within_few ps fewest has))

    -- no prefixes with all addresses of the set have fewer
    pub itself_least : HaveAtMost number order width most (item_ranges items)
        → AreLeast number order width most items items
    itself_least (ps, whole, just, few) others all_whole all_few all n m first second =
        let own : List Block = map (block_of family) ps in
        let their : List Block = map (block_of family) others in
        let one = number_is family (HoldsKey order items) (are_held width own)
        (set_tested ps whole just) n first in
        let two = number_is family (SomeHasAddress number others) (are_held width their)
        (tested others all_whole) m second in
        let fewer = counts_le (2 ^ width) (are_held width own) (are_held width their)
        (λ k small passes.
        let mine = by_number family (HoldsKey order items) (are_held width own)
        (set_tested ps whole just) k small in
        let theirs = by_number family (SomeHasAddress number others) (are_held width their)
        (tested others all_whole) k small in
        theirs.0 (all (at k) (key_at family k small) (mine.1 passes))) in
        omega (arith, one, two, fewer)

    -- none is added
    pub itself_added : HaveAtMost number order width most (item_ranges items)
        → AreAdded order items items 0
    itself_added (ps, whole, just, few) n m first second =
        let own : List Block = map (block_of family) ps in
        let one = number_is family (HoldsKey order items) (are_held width own)
        (set_tested ps whole just) n first in
        let two = number_is family (HoldsKey order items) (are_held width own)
        (set_tested ps whole just) m second in
        omega (arith, one, two)
