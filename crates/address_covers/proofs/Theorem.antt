-- What the blocks that add the fewest numbers are as a set of addresses.
use Rattle.std.proofs.Common.{◌≡◌, ℕ, ◌+◌, ◌≤◌, ◌^◌, ◌↔◌, true, List, [], ◌∷◌, map, length, inl, inr, ap, sym, ◌∙◌, arith}
use Rattle.std.specs.List.{AllByRecursion}
use Rattle.std.proofs.lemmas.List.{length-map}
use Rattle.btree_range_map.specs.AnyRange.{AnyRange}
use Rattle.btree_range_map.specs.FreeRanges.{item_ranges}
use Rattle.btree_range_map.specs.Intervals.{Any}
use Rattle.btree_range_map.specs.Item.{Item}
use Rattle.btree_range_map.specs.KeySets.{HoldsKey}
use Rattle.btree_range_map.specs.Order.{KeyOrder}
use Rattle.btree_range_map.specs.Range.{Holds}
use Rattle.btree_range_map.specs.Together.{BindKeysOf}
use Rattle.address_keys.specs.Families.{IsFamily}
use Rattle.address_prefixes.specs.Prefixes.{SomeHasAddress}
use Rattle.address_prefixes.specs.Runs.{AreRuns}
use Rattle.address_prefixes.proofs.Runs.{in_runs}
use Rattle.least_covers.specs.Covers.{Covers, IsLeast, are_held, held, how_many}
use Rattle.least_covers.specs.Runs.{has}
use Rattle.least_covers.specs.Trees.{IsBlock}
use Rattle.least_covers.specs.declared.blocks.Block.{Block}
use Rattle.address_covers.specs.Blocks.{HoldsBlocks}
use Rattle.address_covers.specs.Covers.{AreAdded, AreLeast, HaveAtMost}
use Rattle.address_covers.proofs.Numbers.{key_at, number_is}
use Rattle.address_covers.proofs.Prefixes.{block_of, prefix_of, prefixes_are, prefixes_hold, prefixes_ranges, ranges_hold}
use Rattle.address_covers.proofs.Runs.{has_in, in_has}

-- a stored range holds the key just where one of the ranges does
pub stored_holds : {A V : Type 0} (order : KeyOrder A) (items : List (Item (AnyRange A) V)) (a : A)
    → HoldsKey order items a ↔ Any (λ r. Holds order r a) (item_ranges items)
stored_holds order [] a = (λ none. none, λ none. none)
stored_holds order (i ∷ items) a =
    let rest = stored_holds order items a in (
      λ some. elim some [ inl here ↦ inl here | inr later ↦ inr (rest.0 later) ],
      λ some. elim some [ inl here ↦ inl here | inr later ↦ inr (rest.1 later) ],
    )

module _ {A : Type 0} {order : KeyOrder A} {number : A → ℕ} {at : ℕ → A} {width : ℕ}
    (family : IsFamily order number at width) (items cover : List (Item (AnyRange A) (Unit {0})))
    (runs : List (ℕ × ℕ)) (bs : List Block)
    (are : AreRuns (λ n. HoldsKey order items (at n)) (2 ^ width) runs)
    (blocks : AllByRecursion (IsBlock width) bs) (is : HoldsBlocks order at width cover bs) where
  set_has : (a : A) → order.is_key a → HoldsKey order items a ↔ (has runs (number a) ≡ true)
  set_has a key =
      let both = in_runs family (HoldsKey order items) runs are a key in (
        λ held. in_has (number a) runs (both.1 held),
        λ t. both.0 (has_in (number a) runs t),
      )

  cover_has : (a : A) → order.is_key a → HoldsKey order cover a ↔ (are_held width bs (number a) ≡ true)
  cover_has a key =
      let both = ranges_hold family a key bs blocks in (
        λ h. both.0 ((is a key).0 h),
        λ t. (is a key).1 (both.1 t),
      )

  pub covers : Covers width runs bs → BindKeysOf order items cover
  covers all a key held =
      (cover_has a key).1 (all (number a) (family.counted.in_size a key) ((set_has a key).0 held))

  pub have_at_most : (most : ℕ) → length bs ≤ most
      → HaveAtMost number order width most (item_ranges cover)
  have_at_most most few = (
    map (prefix_of family) bs,
    prefixes_are family bs blocks,
    λ a key.
        let one = prefixes_ranges family a key bs blocks in
        let two = is a key in
        let three = stored_holds order cover a in
        (λ some. three.0 (two.1 (one.0 some)), λ some. one.1 (two.0 (three.1 some))),
    let l = length-map bs (prefix_of family) in omega (arith, l, few),
  )

  pub are_least : (most : ℕ) → IsLeast width most runs bs → AreLeast number order width most items cover
  are_least most least others whole few all n m first second =
      let their : List Block = map (block_of family) others in
      let l = length-map others (block_of family) in
      let one = number_is family (HoldsKey order cover) (are_held width bs) cover_has n first in
      let two = number_is family (SomeHasAddress number others) (are_held width their)
      (λ a key. prefixes_hold family others whole a (family.counted.in_size a key)) m second in
      let fewest = least their (omega (arith, l, few)) (λ k small passes.
      let e = family.at_number k small in
      let key = key_at family k small in
      let held_here : HoldsKey order items (at k) =
      (set_has (at k) key).1 (ap (λ x. has runs x) e ∙ passes) in
      ap (λ x. are_held width their x) (sym e)
      ∙ (prefixes_hold family others whole (at k) (omega (arith, e, small))).0 (all (at k) key held_here)) in
      omega (arith, one, two, fewest)

  pub are_added : (added : ℕ) → held width bs ≡ how_many (2 ^ width) (has runs) + added
      → AreAdded order items cover added
  are_added added e n m first second =
      let one = number_is family (HoldsKey order items) (has runs) set_has n first in
      let two = number_is family (HoldsKey order cover) (are_held width bs) cover_has m second in
      omega (arith, one, two, e)
