-- Edges between the items below a node, how many items stand before one, and where the last of them
-- stands.
use Rattle.std.specs.Prelude.{◌≡◌, ℕ, zero, suc, ◌+◌, ◌-◌, ◌/◌, ◌%◌, ◌<◌, ◌≤◌, ◌==◌, ◌&&◌, if◌then◌else◌, Bool, List, length, map, slice_index}
use Rattle.range_nodes.specs.Heap.{Heap, node_items, node_children, node_child}
use Rattle.range_tree.specs.declared.btree.path.Edge.{Edge}
use Rattle.range_tree.specs.declared.btree.path.Home.{Home}
use Rattle.range_tree.specs.declared.btree.path.TheConstants.{PATH_BASE}
use Rattle.range_tree.specs.Nodes.{items_below, before, before_child}

-- the child through which the path to an edge goes first, and the edge as that child sees it
abbrev pub turn : Edge → ℕ
turn edge = edge.path % PATH_BASE

abbrev pub inside : Edge → Edge
inside edge = record edge { path = edge.path / PATH_BASE }

-- where an edge lies in the node that it is seen from: in the list of a leaf, or below the child at
-- this index
abbrev pub seat_of : ℕ → Edge → ℕ
seat_of zero edge = edge.index
seat_of (suc d) edge = turn edge

-- whether nothing stands before the edge, below the node that it is seen from
abbrev pub is_start : Edge → Bool
is_start edge = (edge.path == 0) && (edge.index == 0)

module _ {T : Type 0} where
  -- the path leads from the node n, over d levels, to a leaf with such an edge
  unfoldable pub IsEdge : Heap T → ℕ → ℕ → Edge → Type 0
  IsEdge s zero n edge = (edge.leaf ≡ n) × (edge.path ≡ 0) × (edge.index ≤ length (node_items s n))
  IsEdge s (suc d) n edge =
      (turn edge < length (node_children s n))
      × IsEdge s d (node_child s n (turn edge)) (inside edge)

  -- how many items below the node stand before the edge
  unfoldable pub offset : Heap T → ℕ → ℕ → Edge → ℕ
  offset s zero n edge = edge.index
  offset s (suc d) n edge =
      length (before_child s (suc d) n (turn edge))
      + offset s d (node_child s n (turn edge)) (inside edge)

  -- where the item before the edge stands
  unfoldable pub home_of : Heap T → ℕ → ℕ → Edge → Home
  home_of s zero n edge = record { node = n; index = edge.index - 1 }
  home_of s (suc d) n edge =
      if is_start (inside edge)
      then record { node = n; index = turn edge - 1 }
      else home_of s d (node_child s n (turn edge)) (inside edge)

  -- the same in a node that is to have these items and children, for an edge in a leaf's list of
  -- items or below the child at i
  unfoldable pub IsSeat : Heap T → ℕ → List T → List ℕ → ℕ → Edge → Type 0
  IsSeat s zero xs ks i edge = i ≤ length xs
  IsSeat s (suc d) xs ks i edge = (i < length ks) × IsEdge s d (slice_index ks i) edge

  unfoldable pub seat_offset : Heap T → ℕ → List T → List ℕ → ℕ → Edge → ℕ
  seat_offset s zero xs ks i edge = i
  seat_offset s (suc d) xs ks i edge =
      length (before xs (map (items_below s (suc d)) ks) i) + offset s d (slice_index ks i) edge

  -- how many items below n stand before an edge below its child at i
  abbrev pub offset_through : Heap T → ℕ → ℕ → ℕ → Edge → ℕ
  offset_through s d n i edge = seat_offset s (suc d) (node_items s n) (node_children s n) i edge
