-- An item into a leaf.
use Rattle.std.proofs.Common.{◌≡◌, ℕ, ◌+◌, ◌≤◌, List, ◌∷◌, length, refl, arith, subst}
use Rattle.std.specs.List.{insert, flat_map}
use Rattle.std.proofs.lemmas.List.{nil_from_length}
use Rattle.std.proofs.lemmas.List.Edits.{length-insert}
use Rattle.range_nodes.specs.Heap.{Heap, node_items, node_children}
use Rattle.range_nodes.specs.declared.nodes.TheConstants.{CAPACITY}
use Rattle.range_tree.specs.declared.btree.path.Edge.{Edge}
use Rattle.range_tree.specs.Nodes.{weave, items_below, used, ShapedBut, Owned, Moves, child_lists}
use Rattle.range_tree.specs.Edges.{IsSeat, seat_offset}
use Rattle.range_tree.specs.Contents.{IsContent}
use Rattle.range_tree.proofs.Below.{used_is, items_below_leaf}
use Rattle.range_tree.proofs.Moves.{Moves-none}
use Rattle.range_tree.proofs.Contents.{bare_content}

module _ {T : Type 0} {s : Heap T} {n : ℕ} (i : ℕ) (item : T)
    (shaped : ShapedBut 1 CAPACITY s 0 n) where
  pub leaf_content : Owned s 1 n
      → IsContent s 0 n (insert (node_items s n) i item) (node_children s n)
  leaf_content owned = bare_content (insert (node_items s n) i item) shaped owned

  pub leaf_moved : Moves s s (used s 1 n) (n ∷ flat_map (used s 0) (node_children s n))
  leaf_moved = subst (λ zs. Moves s s (used s 1 n) zs) (used_is s 0 n) (Moves-none s (used s 1 n))

  pub leaf_listed : weave (insert (node_items s n) i item)
      (child_lists s 0 n) ≡ insert (items_below s 1 n) i item
  leaf_listed = grind (arith, items_below_leaf, nil_from_length)

  pub leaf_longer : i ≤ length (node_items s n) → length (weave (insert (node_items s n) i item)
      (child_lists s 0 n)) ≡ length (items_below s 1 n) + 1
  leaf_longer low =
      grind (arith, leaf_listed, length-insert, items_below_leaf)

pub leaf_seat : {T : Type 0} (s : Heap T) (xs : List T) (ks : List ℕ) (i : ℕ) (g : Edge)
    → i ≤ length xs → IsSeat s 0 xs ks i g
unfolding IsSeat
leaf_seat s xs ks i g low = low

pub leaf_seat_place : {T : Type 0} (s : Heap T) (xs : List T) (ks : List ℕ) (i : ℕ) (g : Edge)
    → seat_offset s 0 xs ks i g ≡ i
unfolding seat_offset
leaf_seat_place s xs ks i g = refl
