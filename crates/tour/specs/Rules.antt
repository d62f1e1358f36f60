-- What the rules that a table was given say of a port.
use Rattle.std.specs.Prelude.{◌≡◌, Option, Some, None, List, [], ◌∷◌, String}
use Rattle.std.specs.String.{string_eq}
use Rattle.std.specs.declared.alloc.Global.{Global}
use Rattle.btree_range_map.specs.AnyRange.{AnyRange}
use Rattle.btree_range_map.specs.Bindings.{Binds, IsSomeOf}
use Rattle.btree_range_map.specs.Item.{Item}
use Rattle.btree_range_map.specs.Range.{Holds}
use Rattle.tour.specs.declared.access.port.Port.{Port}
use Rattle.tour.specs.Ports.{port_order}

abbrev pub Label : Type 0
Label = String Global

-- the ranges that are allowed, with their labels
abbrev pub Table : Type 0
Table = List (Item (AnyRange Port) Label)

-- a range that is allowed with a label, or denied where there is none
pub record Rule : Type 0 where
  pub range : AnyRange Port
  pub label : Option Label

-- the table allows the port with this label, or with none
abbrev pub Says : Table → Port → Option Label → Type 0
Says table port label = Binds port_order string_eq table port label

-- both are none, or equal labels
abbrev pub IsLabel : Option Label → Option Label → Type 0
IsLabel None label = label ≡ None
IsLabel (Some text) label = IsSomeOf port_order string_eq text label

-- the label of the latest rule on the port, and none where no rule is on it; the latest comes first
abbrev pub IsOfLatest : List Rule → Port → Option Label → Type 0
IsOfLatest [] port label = label ≡ None
IsOfLatest (rule ∷ earlier) port label =
    (Holds port_order rule.range port → IsLabel rule.label label)
    × (¬ Holds port_order rule.range port → IsOfLatest earlier port label)

-- on each port the latest of these rules decides
abbrev pub IsDecidedBy : Table → List Rule → Type 0
IsDecidedBy table rules = (port : Port) → port_order.is_key port → (label : Option Label)
    → Says table port label → IsOfLatest rules port label
