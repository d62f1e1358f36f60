-- What is known of a whole tree.
use Rattle.std.proofs.Common.{◌≡◌, ℕ, zero, suc, ◌+◌, ◌-◌, ◌<◌, ◌≤◌, length, get_or, refl, inl, inr, arith}
use Rattle.std.proofs.Math.Nat.{pow-le-pow_right}
use Rattle.std.proofs.lemmas.Bool.{cases_lt}
use Rattle.range_nodes.specs.Heap.{Heap, node_items}
use Rattle.range_nodes.specs.declared.nodes.TheConstants.{MIN_LEN}
use Rattle.range_tree.specs.declared.btree.path.TheConstants.{MAX_LEVELS}
use Rattle.range_tree.specs.declared.btree.BoxStorage.{BoxStorage}
use Rattle.range_tree.specs.declared.btree.path.Edge.{Edge}
use Rattle.range_tree.specs.Holding.{box_items, IsBoxEdge, box_offset, good_item}
use Rattle.range_tree.specs.Nodes.{IsRoomy}
use Rattle.range_tree.proofs.Edges.{place_within}
use Rattle.range_tree.proofs.InLeaf.{IsLeafOf, leaf_of_edge, leaf_beside, leaf_home, place_index}
use Rattle.range_tree.proofs.Levels.{tree_lower}
use Rattle.range_tree.specs.Written.{root_shaped}

-- so many levels as a path has digits are enough for all items that a tree may have
pub tree_is_not_too_deep : {T : Type 0} {s : Heap T} (levels : ℕ) {root : ℕ} → IsRoomy s levels root
    → levels - 1 < MAX_LEVELS
tree_is_not_too_deep zero {root} roomy = omega arith
tree_is_not_too_deep {T} {s} (suc d) {root} roomy =
    elim (cases_lt d MAX_LEVELS) [
      | inl low ↦ omega arith
      | inr high ↦
          let some : 0 < MIN_LEN + 1 = omega arith in
          grind (arith, pow-le-pow_right some high, tree_lower)
    ]

-- no edge lies past the end
pub edge_within : {T : Type 0} {t : BoxStorage T} {g : Edge} → IsBoxEdge t g
    → box_offset t g ≤ length (box_items t)
edge_within {T} {t} {g} is =
    grind (arith, place_within (t.levels - 1) g (root_shaped t.levels is.some t.whole.tree) is.edge)

-- an edge in the leaf of another, and the item there
module _ {T : Type 0} {t : BoxStorage T} {g : Edge} (is : IsBoxEdge t g) where
  pub tree_leaf : IsLeafOf t.nodes g
  tree_leaf = leaf_of_edge (t.levels - 1) g (root_shaped t.levels is.some t.whole.tree) is.edge

  pub tree_beside : (h : Edge) → h.leaf ≡ g.leaf → h.path ≡ g.path
      → h.index ≤ length (node_items t.nodes g.leaf)
      → IsBoxEdge t h × (box_offset t h + g.index ≡ box_offset t g + h.index)
  tree_beside h leaf path index =
      grind (arith, leaf_beside t.nodes (t.levels - 1) t.root g h leaf path index is.edge)

  -- the edge after the first item of the leaf
  pub tree_behind : g.index ≡ 0
      → IsBoxEdge t (record { leaf = g.leaf; path = g.path; index = 1 })
      × (box_offset t (record { leaf = g.leaf; path = g.path; index = 1 }) ≡ box_offset t g + 1)
  tree_behind first =
      let beside =
      tree_beside (record { leaf = g.leaf; path = g.path; index = 1 }) refl refl
      tree_leaf.some in
      (beside.0, omega (arith, beside.1, first))

  -- the item before an edge that has one in its leaf
  pub leaf_item : (e : T) → 0 < g.index
      → get_or (box_items t) (box_offset t g - 1) e
      ≡ get_or (node_items t.nodes g.leaf) (g.index - 1) e
  leaf_item e some = grind (arith, place_index, good_item, leaf_home)
