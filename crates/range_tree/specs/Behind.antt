-- The edge behind the leaf of another, and the node over that leaf.
use Rattle.std.specs.Prelude.{◌≡◌, ℕ, suc, ◌+◌, ◌-◌, ◌^◌, ◌<◌, Option, Some, IsSome, length, MatchOption}
use Rattle.range_nodes.specs.Heap.{Heap, node_of, node_items, node_children, node_child}
use Rattle.range_tree.specs.declared.btree.path.Edge.{Edge}
use Rattle.range_tree.specs.declared.btree.path.Parent.{Parent}
use Rattle.range_tree.specs.Edges.{IsEdge, offset, home_of}
use Rattle.range_tree.specs.Nodes.{items_below}

module _ {T : Type 0} where
  -- the edge after the item behind the leaf, if there is one below the node n
  abbrev pub IsBehindLeaf : Heap T → ℕ → ℕ → Edge → Option Edge → Type 0
  IsBehindLeaf s d n edge behind =
      let end = record edge { index = length (node_items s edge.leaf) } in
      MatchOption behind (offset s d n end ≡ length (items_below s (suc d) n))
      (λ h. IsEdge s d n h × (offset s d n h ≡ offset s d n end + 1))

  -- the edge before the items of the next leaf below a parent
  abbrev pub next_start : Heap T → Edge → Parent → Edge
  next_start s edge parent =
      record {
        path = edge.path + parent.weight;
        leaf = node_child s parent.node (parent.index + 1);
        index = 0;
      }

  -- the node over the leaf of an edge: the item before that leaf, and the edge behind it, where the
  -- node has a child on that side
  pub record IsParent (s : Heap T) (d n : ℕ) (edge : Edge) (parent : Parent) : Type 0 where
    pub present : IsSome (node_of s parent.node)
    pub children : length (node_children s parent.node) ≡ length (node_items s parent.node) + 1
    pub small : edge.path + parent.weight < 2 ^ 64
    pub home : edge.index ≡ 0 → 0 < parent.index
        → home_of s d n edge ≡ record { node = parent.node; index = parent.index - 1 }
    pub behind : parent.index < length (node_items s parent.node)
        → IsBehindLeaf s d n edge (Some (next_start s edge parent))
