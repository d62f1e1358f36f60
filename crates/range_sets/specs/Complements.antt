-- When the ranges of one set are the gaps of another.
use Rattle.std.specs.Prelude.{◌≡◌, List}
use Rattle.std.specs.List.{AllZip}
use Rattle.std.specs.declared.cmp.Ordering.TheVariants.{Equal}
use Rattle.range_keys.specs.Order.{KeyOrder}
use Rattle.range_algebra.specs.RangeOrder.{range_cmp}
use Rattle.range_algebra.specs.declared.any.AnyRange.{AnyRange}
use Rattle.range_store.specs.declared.storage.Item.{Item}
use Rattle.range_reads.specs.FreeRanges.{AreGaps}

module _ {K : Type 0} (order : KeyOrder K) {V : Type 0} where
  -- the ranges equal, one by one, the gaps of the items
  abbrev pub EqualGapsOf : List (Item (AnyRange K) V) → List (Item (AnyRange K) V) → Type 0
  EqualGapsOf items others =
      (gaps : List (AnyRange K)) × AreGaps order items gaps
      × AllZip (λ i g. range_cmp order i.key g ≡ Equal) others gaps
