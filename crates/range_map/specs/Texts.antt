-- How a map is shown, given how its keys and values are; nothing is said where one of them leaves
-- its text open.
use Rattle.std.specs.Prelude.{ℕ, List, [], ◌∷◌, Option, Some, codes}
use Rattle.range_map.specs.Common.{AnyRange, Item}
use Rattle.std.specs.Fmt.{◌++?◌}
use Rattle.range_algebra.specs.Texts.{range_text}

module _ {K V : Type 0} (key_text : K → Option (List ℕ)) (value_text : V → Option (List ℕ)) where
  abbrev pub item_text : Item (AnyRange K) V → Option (List ℕ)
  item_text i = range_text key_text i.key ++? Some (codes "=>") ++? value_text i.value

  -- one after the other, with nothing between
  abbrev pub items_text : List (Item (AnyRange K) V) → Option (List ℕ)
  items_text [] = Some []
  items_text (i ∷ rest) = item_text i ++? items_text rest

  abbrev pub list_text : List (Item (AnyRange K) V) → Option (List ℕ)
  list_text items = Some (codes "{") ++? items_text items ++? Some (codes "}")
