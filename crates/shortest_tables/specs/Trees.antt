-- Blocks divided into halves down to those whose addresses are all alike, with the labels of each.
use Rattle.std.specs.Prelude.{◌≡◌, ℕ, ◌+◌, ◌≤◌, ◌^◌, zero, suc, Bool, true, false, nat_eq, List, [], ◌∷◌, ◌++◌, length, get_or, reverse, Option}
use Rattle.shortest_tables.specs.Tables.{Bits}
use Rattle.shortest_tables.specs.Entries.{own, placed}
use Rattle.shortest_tables.specs.Labels.{choose, entry, half, labels, leaf, table_below}
use Rattle.shortest_tables.specs.Numbers.{AreLeft, as_labels, block, value_at}
use Rattle.shortest_tables.specs.declared.entries.Entry.{Entry}
use Rattle.shortest_tables.specs.declared.marks.Marks.{Marks}
use Rattle.shortest_tables.specs.declared.marks.Node.{Node}
use Rattle.shortest_tables.specs.declared.marks.Taken.{Taken}
use Rattle.shortest_tables.specs.declared.spans.Span.{Span}

-- the labels of a block that is not divided, or of one and its two halves
pub data Tree : Type 0 where
  Whole : List ℕ → Tree
  Divided : List ℕ → Tree → Tree → Tree

-- the tree of a map's block of so many free bits
abbrev pub IsTreeOf : ℕ → (Bits → Option ℕ) → Tree → Type 0
IsTreeOf free f (Whole best) =
    (x : Option ℕ) × ((a : Bits) → f a ≡ x) × (as_labels best ≡ leaf nat_eq x)
IsTreeOf zero f (Divided best low high) = ⊥
IsTreeOf (suc free) f (Divided best low high) = (as_labels best ≡ labels nat_eq (suc free) f)
    × IsTreeOf free (half false f) low × IsTreeOf free (half true f) high

-- its nodes, each after those of its halves
abbrev pub nodes_of : Tree → List Node
nodes_of (Whole best) = record { is_divided = false; labels = length best } ∷ []
nodes_of (Divided best low high) = nodes_of low ++ nodes_of high
    ++ record { is_divided = true; labels = length best } ∷ []

-- all their labels
abbrev pub labels_of : Tree → List ℕ
labels_of (Whole best) = best
labels_of (Divided best low high) = labels_of low ++ labels_of high ++ best

-- the nodes and labels of a tree stand after others
abbrev pub HasTree : Tree → List Node → List ℕ → Marks → Type 0
HasTree t nodes best marks = (marks.nodes.items ≡ nodes ++ nodes_of t)
    × (marks.labels.items ≡ best ++ labels_of t)

-- those of a tree of the map were added
abbrev pub IsGathered : ℕ → (Bits → Option ℕ) → Marks → Marks → Type 0
IsGathered free f old new =
    (t : Tree) × IsTreeOf free f t × HasTree t old.nodes.items old.labels.items new

-- no number is marked
abbrev pub IsClear : List Bool → Type 0
IsClear seen = (v : ℕ) → get_or seen v false ≡ false

-- from a number on these spans say what the other ones say
abbrev pub SayAlike : Option ℕ → ℕ → List (Span ℕ) → List (Span ℕ) → Type 0
SayAlike otherwise past spans left = (n : ℕ) → past ≤ n
    → value_at otherwise left n ≡ value_at otherwise spans n

-- a block was gathered: its labels were found, and the spans that end after it
pub record IsBlockGathered (otherwise : Option ℕ) (spans : List (Span ℕ)) (free from : ℕ)
    (old new : Marks) (best : List ℕ) (left : List (Span ℕ)) : Type 0 where
  pub labelled : as_labels best ≡ labels nat_eq free (block otherwise spans free from)
  pub added : IsGathered free (block otherwise spans free from) old new
  pub clear : IsClear new.seen.items
  pub count : length new.seen.items ≡ length old.seen.items
  pub ahead : AreLeft (length old.seen.items) (from + 2 ^ free) left
  pub alike : SayAlike otherwise (from + 2 ^ free) spans left

-- the last node is taken out, with its labels, and its own value and its label are found
abbrev pub IsPopped : Option ℕ → Marks → Marks → Taken → Type 0
IsPopped above old new taken = (nodes : List Node) (others best : List ℕ) (is_divided : Bool)
    → old.nodes.items ≡ nodes ++ record { is_divided = is_divided; labels = length best } ∷ []
    → old.labels.items ≡ others ++ best
    → (new.nodes.items ≡ nodes) × (new.labels.items ≡ others)
    × (taken.is_divided ≡ is_divided)
    × (own taken.own ≡ entry nat_eq (as_labels best) above)
    × (taken.label ≡ choose nat_eq (as_labels best) above)

-- a tree of a map is taken out, and the entries of its block are added, the last one first
abbrev pub IsWritten : ℕ → ℕ → ℕ → Option ℕ → Marks → Marks → List (Entry ℕ) → List (Entry ℕ)
    → Type 0
IsWritten width free network above old new before after =
    (f : Bits → Option ℕ) (t : Tree) (nodes : List Node) (others : List ℕ)
    → IsTreeOf free f t → HasTree t nodes others old
    → (new.nodes.items ≡ nodes) × (new.labels.items ≡ others)
    × (after ≡ before ++ reverse (placed width free network (table_below nat_eq free f above)))
