-- The ranges of a list that is put together of two.
use Rattle.std.proofs.Common.{◌≡◌, List, [], ◌∷◌, ◌++◌, refl, ap}
use Rattle.range_algebra.specs.declared.any.AnyRange.{AnyRange}
use Rattle.range_store.specs.declared.storage.Item.{Item}
use Rattle.range_reads.specs.FreeRanges.{item_ranges}

pub item_ranges_append : {K V : Type 0} (xs ys : List (Item (AnyRange K) V))
    → item_ranges (xs ++ ys) ≡ item_ranges xs ++ item_ranges ys
item_ranges_append [] ys = refl
item_ranges_append (x ∷ xs) ys = ap (λ rest. x.key ∷ rest) (item_ranges_append xs ys)

-- a list without a range has no item
pub ranges_none : {K V : Type 0} (items : List (Item (AnyRange K) V)) → item_ranges items ≡ []
    → items ≡ []
ranges_none [] none = refl
ranges_none (x ∷ xs) none = absurd (cc)
