-- The values and the ranges of a table by numbers.
use Rattle.std.specs.Prelude.{◌≡◌, ◌-◌, ◌<◌, ℕ, zero, suc, Bool, if◌then◌else◌, List, [], ◌∷◌, length, get_or, Option, IfSome}
use Rattle.std.specs.Borrow.{Bor}
use Rattle.std.specs.List.{AllByRecursion, AllZip}
use Rattle.btree_range_map.specs.AnyRange.{AnyRange}
use Rattle.btree_range_map.specs.Item.{Item}
use Rattle.address_prefixes.specs.Spans.{span}
use Rattle.address_prefixes.specs.Tiles.{prefix_at}
use Rattle.shortest_tables.specs.declared.entries.Entry.{Entry as NumberedEntry}
use Rattle.shortest_tables.specs.declared.spans.Span.{Span}
use Rattle.address_tables.specs.declared.entries.Entry.{Entry}

module _ {V : Type 0} (same_value : V → V → Bool) where
  -- the place of the first value that equals v, or how many there are
  abbrev pub place : List V → V → ℕ
  place [] v = 0
  place (w ∷ values) v = if same_value w v then 0 else suc (place values v)

  -- one of the values equals v
  abbrev pub IsAmong : List V → V → Type 0
  IsAmong values v = place values v < length values

  -- this is so of the values of all ranges, and of the other one
  abbrev pub AreAmong : {A : Type 0} → List V → Option V → List (Item (AnyRange A) V) → Type 0
  AreAmong values otherwise items = IfSome otherwise (IsAmong values)
      × AllByRecursion (λ i. IsAmong values i.value) items

  -- a range by its numbers, with the place of its value
  abbrev pub numbered : {A : Type 0} → (A → ℕ) → ℕ → List V → Item (AnyRange A) V → Span ℕ
  numbered number width values i =
      record {
        first = (span number width i.key).0;
        last = (span number width i.key).1;
        value = place values i.value;
      }

module _ {A V : Type 0} (at : ℕ → A) (width : ℕ) (values : List (Bor V)) where
  -- the entry is one by numbers, with the value of that place
  abbrev pub IsNamed : NumberedEntry ℕ → Entry A (Bor V) → Type 0
  IsNamed e entry = (entry.prefix ≡ prefix_at at width e.network (width - e.length))
      × (get_or values e.value entry.value ≡ entry.value)

  -- so are all of them, in order
  abbrev pub AreNamed : List (NumberedEntry ℕ) → List (Entry A (Bor V)) → Type 0
  AreNamed es entries = AllZip IsNamed es entries
