-- The prefixes of the ranges of a table, each as wide as it goes.
use Rattle.std.specs.Prelude.{ℕ, ◌+◌, List, [], ◌∷◌, ◌++◌, map}
use Rattle.btree_range_map.specs.AnyRange.{AnyRange}
use Rattle.btree_range_map.specs.Item.{Item}
use Rattle.address_prefixes.specs.Spans.{span}
use Rattle.address_prefixes.specs.Tiles.{all_tiles}
use Rattle.address_prefixes.specs.declared.prefix.Prefix.{Prefix}
use Rattle.address_tables.specs.declared.entries.Entry.{Entry}

module _ {A : Type 0} (number : A → ℕ) (at : ℕ → A) (width : ℕ) where
  -- the widest prefixes of a range, one after the other
  abbrev pub range_tiles : AnyRange A → List (Prefix A)
  range_tiles r = all_tiles at width (span number width r).0 ((span number width r).1 + 1)

module _ {A V : Type 0} where
  -- prefixes that have one value
  abbrev pub valued : V → List (Prefix A) → List (Entry A V)
  valued v prefixes = map (λ p. record { prefix = p; value = v }) prefixes

  -- those of all ranges, with their values
  abbrev pub tiled : (A → ℕ) → (ℕ → A) → ℕ → List (Item (AnyRange A) V) → List (Entry A V)
  tiled number at width [] = []
  tiled number at width (i ∷ items) =
      valued i.value (range_tiles number at width i.key) ++ tiled number at width items
