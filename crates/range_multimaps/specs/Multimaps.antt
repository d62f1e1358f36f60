-- Multimaps in the default container, seen by their pairs alone.
use Rattle.std.specs.Prelude.{Bool}
use Rattle.range_keys.specs.Order.{KeyOrder}
use Rattle.range_algebra.specs.declared.any.AnyRange.{AnyRange}
use Rattle.range_tree.specs.Holding.{box_items}
use Rattle.range_tree.specs.declared.btree.BoxStorage.{BoxStorage}
use Rattle.range_store.specs.declared.storage.Item.{Item}
use Rattle.range_multimaps.specs.Pairs.{HasPair}

-- such a multimap, of keys and sets of values
abbrev pub Multimap : Type 0 → Type 0 → Type 0
Multimap K S = BoxStorage (Item (AnyRange K) S)

-- the key has the value in the multimap
abbrev pub IsPairOf : {K : Type 0} → KeyOrder K → {S V : Type 0} → (S → V → Bool) → Multimap K S
    → K → V → Type 0
IsPairOf order has multimap = HasPair order has (box_items multimap)
