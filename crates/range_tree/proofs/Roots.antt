-- A whole tree after a removal.
use Rattle.std.proofs.Common.{◌≡◌, ◌≢◌, ℕ, zero, suc, ◌+◌, ◌-◌, ◌<◌, ◌≤◌, List, [], ◌∷◌, length, get_or, refl, ap, arith}
use Rattle.std.proofs.lemmas.List.{append-nil, nil_from_length}
use Rattle.range_nodes.specs.Heap.{Heap, Removes, node_items, node_children, node_child}
use Rattle.range_nodes.specs.Occurrences.{occurrences}
use Rattle.range_nodes.proofs.Occurrences.{occurrences-cons, occurrences-nil, occurrences_itself, occurrences_other}
use Rattle.range_tree.specs.Nodes.{items_below, used, here, Shaped, IsTree, IsLooseTree, Shrinks}
use Rattle.range_tree.proofs.Below.{weave_items_below, used_is, used_leaf, items_below_leaf, Shaped-but}
use Rattle.range_tree.specs.Frame.{AgreeAt, same_below, SameBelow}
use Rattle.range_tree.proofs.Edges.{same_edge, edge_inside, turn_within, place_inside}
use Rattle.range_tree.proofs.Rank.{items_below_none, used_none}
use Rattle.range_tree.specs.declared.btree.path.Edge.{Edge}
use Rattle.range_tree.specs.Edges.{turn, inside, IsEdge, offset}

-- the items after one went below the root
pub loosened_items : {T : Type 0} {s t : Heap T} (levels : ℕ) {root : ℕ} {list : List T}
    → 0 < levels → Shrinks s t (levels - 1) root list → items_below t levels root ≡ list
loosened_items levels some step = grind arith

list_of_one : (ks : List ℕ) → length ks ≡ 1 → ks ≡ get_or ks 0 0 ∷ []
list_of_one [] one = absurd (omega arith)
list_of_one (k ∷ []) one = refl
list_of_one (k ∷ j ∷ ks) one = absurd (omega arith)

-- a tree of one level that lost its last item
pub empty_root_leaves_nothing : {T : Type 0} {s t : Heap T} (levels : ℕ) {root : ℕ} → levels ≡ 1
    → IsLooseTree s levels root → length (node_items s root) ≡ 0 → Removes s t root
    → IsTree t 0 0 × (items_below t 0 0 ≡ items_below s levels root)
empty_root_leaves_nothing levels one loose empty gone =
    grind (
      arith,
      used_leaf,
      occurrences_itself,
      occurrences_other,
      used_none,
      occurrences-nil,
      items_below_none,
      nil_from_length,
      items_below_leaf,
    )

-- a taller tree whose root has one child alone
module _ {T : Type 0} {s t : Heap T} {e root : ℕ} (loose : IsLooseTree s (suc (suc e)) root)
    (one : node_children s root ≡ node_child s root 0 ∷ []) (gone : Removes s t root) where
  used_all : used s (suc (suc e)) root ≡ root ∷ used s (suc e) (node_child s root 0)
  used_all =
      grind (arith, used_is, append-nil)

  occurs : (k : ℕ) → occurrences k (root ∷ [])
      + occurrences k (used s (suc e) (node_child s root 0)) ≡ here s k
  occurs k = omega (arith, ap (occurrences k) used_all, occurrences-cons)

  agree : AgreeAt s t (used s (suc e) (node_child s root 0))
  agree k among = grind (arith, occurrences_itself k, occurs)

pub only_child_is_root : {T : Type 0} {s t : Heap T} (levels : ℕ) {root : ℕ} → levels ≢ 1
    → IsLooseTree s levels root → length (node_items s root) ≡ 0 → Removes s t root
    → IsTree t (levels - 1) (node_child s root 0) × (items_below t
    (levels - 1) (node_child s root 0) ≡ items_below s levels root)
only_child_is_root {T} {s} {t} zero {root} more loose empty gone = absurd (omega arith)
only_child_is_root {T} {s} {t} (suc zero) {root} more loose empty gone = absurd (more refl)
only_child_is_root {T} {s} {t} (suc (suc e)) {root} more loose empty gone =
    let level : suc (suc e) - 1 ≡ suc e = omega arith in
    let shaped = rw level at loose.shaped in
    let ks = node_children s root in
    let kid = node_child s root 0 in
    let one : node_children s root ≡ kid ∷ [] =
    list_of_one ks (omega arith) in
    let same : SameBelow s t (suc e) kid = same_below s t (suc e) kid (agree loose one gone) in
    let kid_shaped : Shaped s (suc e) kid = shaped.children 0 0 (omega arith) in
    let tree : IsTree t (suc e) kid = record {
      shaped = grind (arith, Shaped-but t e kid (same.shaped_same kid_shaped));
      once = λ k. grind (arith, occurs loose one gone k, occurrences_itself, occurrences_other);
      len = omega (arith, ap length (used_all loose one gone), ap length same.used_same);
    } in
    grind (arith, weave_items_below, nil_from_length, append-nil)

-- an edge below the only child of the root
pub lowered_edge : {T : Type 0} {s t : Heap T} (levels : ℕ) {root : ℕ} (g : Edge) → levels ≢ 1
    → IsLooseTree s levels root → length (node_items s root) ≡ 0 → Removes s t root
    → IsEdge s (levels - 1) root g
    → IsEdge t (levels - 1 - 1) (node_child s root 0) (inside g) × (offset t
    (levels - 1 - 1) (node_child s root 0) (inside g) ≡ offset s (levels - 1) root g)
lowered_edge {T} {s} {t} zero {root} g more loose empty gone is = absurd (omega arith)
lowered_edge {T} {s} {t} (suc zero) {root} g more loose empty gone is = absurd (more refl)
lowered_edge {T} {s} {t} (suc (suc e)) {root} g more loose empty gone is' =
    let level : suc (suc e) - 1 ≡ suc e = omega arith in
    let shaped = rw level at loose.shaped in
    let is = rw level at is' in
    let ks = node_children s root in
    let kid = get_or ks 0 0 in
    let one : ks ≡ kid ∷ [] = list_of_one ks (omega arith) in
    let first : turn g ≡ 0 = omega (arith, turn_within s e root g is) in
    let below : IsEdge s e kid (inside g) = rw first at (edge_inside s e root g is) in
    grind (arith, same_edge s t e kid (inside g) (agree loose one gone) below, place_inside)

pub tree_owned : {T : Type 0} {s : Heap T} {levels root : ℕ} → IsTree s levels root → (k : ℕ)
    → occurrences k (used s levels root) ≤ here s k
tree_owned tree k = omega (arith, tree.once k)
