-- The items after an edge in its leaf.
use Rattle.std.proofs.Common.{◌≡◌, ℕ, ◌+◌, ◌-◌, ◌<◌, ◌≤◌, List, length, take, drop, refl, arith}
use Rattle.std.proofs.lemmas.List.{get_or-drop, get_or-take, length-drop, length-take, same_lists}
use Rattle.range_nodes.specs.Heap.{node_of, items_of}
use Rattle.range_tree.specs.Holding.{box_items, box_offset, IsBoxEdge}
use Rattle.range_tree.specs.declared.btree.BoxStorage.{BoxStorage}
use Rattle.range_tree.specs.declared.btree.path.Edge.{Edge}
use Rattle.range_tree.proofs.Whole.{edge_within, leaf_item, tree_beside}

module _ {T : Type 0} {t : BoxStorage T} {g : Edge} (is : IsBoxEdge t g) where
  abbrev leaf_items : List T
  leaf_items = items_of (node_of t.nodes g.leaf)

  -- the edge at another index of the leaf
  pub at_index : (index : ℕ) → index ≤ length leaf_items
      → IsBoxEdge t (record g { index = index })
      × (box_offset t (record g { index = index }) + g.index ≡ box_offset t g + index)
  at_index index low = tree_beside is (record g { index = index }) refl refl low

  pub leaf_rest : drop g.index leaf_items
      ≡ take (length leaf_items - g.index) (drop (box_offset t g) (box_items t))
  leaf_rest =
      let end = at_index (length leaf_items) (omega arith) in
      let most = edge_within end.0 in
      same_lists _ _
      (grind (arith, length-drop, length-take))
      (λ k d low.
      let here : g.index + k < length leaf_items = omega (arith, length-drop g.index leaf_items) in
      let next = at_index (g.index + k + 1) (omega arith) in
      let at : box_offset t (record g { index = g.index + k + 1 }) - 1 ≡ box_offset t g + k =
      omega arith in
      grind (arith, get_or-drop, leaf_item, get_or-take))
