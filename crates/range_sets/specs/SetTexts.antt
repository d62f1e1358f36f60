-- How a set is shown, given how its keys are; nothing is said where a key leaves its text open.
use Rattle.std.specs.Prelude.{ℕ, List, [], ◌∷◌, Option, Some, codes}
use Rattle.std.specs.Fmt.{◌++?◌}
use Rattle.range_algebra.specs.declared.any.AnyRange.{AnyRange}
use Rattle.range_algebra.specs.Texts.{range_text}
use Rattle.range_store.specs.declared.storage.Item.{Item}
use Rattle.range_reads.specs.FreeRanges.{item_ranges}

module _ {K : Type 0} (key_text : K → Option (List ℕ)) where
  -- one after the other, with nothing between
  abbrev pub ranges_text : List (AnyRange K) → Option (List ℕ)
  ranges_text [] = Some []
  ranges_text (r ∷ rest) = range_text key_text r ++? ranges_text rest

  abbrev pub set_text : {V : Type 0} → List (Item (AnyRange K) V) → Option (List ℕ)
  set_text items = Some (codes "{") ++? ranges_text (item_ranges items) ++? Some (codes "}")
