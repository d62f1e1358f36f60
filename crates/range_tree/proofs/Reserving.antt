-- A heap with more capacity.
use Rattle.std.proofs.Common.{◌≡◌, ℕ, refl}
use Rattle.range_nodes.specs.Heap.{Heap, node_of, node_count, SameNodes}
use Rattle.range_tree.specs.Frame.{same_below}
use Rattle.range_tree.specs.Nodes.{items_below, IsTree}
use Rattle.range_tree.specs.Written.{SameShape, tree_same}

module _ {T : Type 0} where
  same_nodes : (s t : Heap T) → ((k : ℕ) → node_of t k ≡ node_of s k)
      → node_count t ≡ node_count s → SameShape s t
  same_nodes s t same len = record {
    present = λ k. rw (same k) refl;
    sizes = λ k. rw (same k) refl;
    children = λ k. rw (same k) refl;
    len = len;
  }

module _ {T : Type 0} {s t : Heap T} (same : SameNodes s t) where
  pub kept_shape : SameShape s t
  kept_shape = same_nodes s t same.nodes same.len

  pub kept_items : (levels root : ℕ) → items_below t levels root ≡ items_below s levels root
  kept_items levels root = (same_below s t levels root (λ k among. same.nodes k)).items_below_same

  pub kept_tree : {levels root : ℕ} → IsTree s levels root → IsTree t levels root
  kept_tree {levels} {root} tree = tree_same kept_shape tree
