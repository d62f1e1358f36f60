-- The paths to edges, and what stands at one.
use Rattle.std.proofs.Common.{◌≡◌, ℕ, zero, suc, ◌+◌, ◌^◌, ◌<◌, ◌≤◌, List, [], ◌∷◌, length, get_or, refl, ap, arith}
use Rattle.std.proofs.Math.Nat.{pow-suc, pow-le-pow_right}
use Rattle.std.proofs.lemmas.List.{length-append}
use Rattle.std.specs.List.{flat_map}
use Rattle.range_nodes.specs.Heap.{Heap, node_of, node_items, node_children, node_child}
use Rattle.range_tree.specs.declared.btree.path.Edge.{Edge}
use Rattle.range_tree.specs.declared.btree.path.TheConstants.{PATH_BASE, MAX_LEVELS}
use Rattle.range_tree.specs.Nodes.{items_below, used, ShapedBut, child_lists, before_child}
use Rattle.range_tree.specs.Edges.{turn, inside, IsEdge, offset}
use Rattle.range_tree.specs.Frame.{AgreeAt, AgreeAt-right, same_children, used_kid}
use Rattle.range_tree.proofs.Below.{items_below_at, items_below_leaf}
use Rattle.range_tree.proofs.Rank.{kid_shaped}
use Rattle.range_nodes.proofs.Occurrences.{occurrences_here}

-- the digits of a path are no more than the levels
path_fits : {T : Type 0} (s : Heap T) (d n : ℕ) (g : Edge) → IsEdge s d n g → g.path < PATH_BASE ^ d
unfolding IsEdge
path_fits s zero n g is = omega (arith, is.1)
path_fits s (suc d) n g is = omega (arith, pow-suc PATH_BASE d, path_fits s d _ (inside g) is.1)

pub path_small : {T : Type 0} (s : Heap T) (d n : ℕ) (g : Edge) → d < MAX_LEVELS → IsEdge s d n g
    → g.path < 2 ^ 60
path_small s d n g deep is = grind (arith, pow-le-pow_right, path_fits)

pub path_low : {T : Type 0} (s : Heap T) (d n : ℕ) (g : Edge) → d + 1 < MAX_LEVELS → IsEdge s d n g
    → g.path < 2 ^ 56
path_low s d n g deep is = grind (arith, pow-le-pow_right, path_fits)

pub leaf_edge : {T : Type 0} (s : Heap T) (n : ℕ) (g : Edge) → g.leaf ≡ n → g.path ≡ 0
    → g.index ≤ length (node_items s n) → IsEdge s zero n g
unfolding IsEdge
leaf_edge s n g leaf path index = (leaf, path, index)

pub leaf_is : {T : Type 0} (s : Heap T) (n : ℕ) (g : Edge) → IsEdge s zero n g → g.leaf ≡ n
unfolding IsEdge
leaf_is s n g is = is.0

pub leaf_index : {T : Type 0} (s : Heap T) (n : ℕ) (g : Edge) → IsEdge s zero n g
    → g.index ≤ length (node_items s n)
unfolding IsEdge
leaf_index s n g is = is.2

pub leaf_path : {T : Type 0} (s : Heap T) (n : ℕ) (g : Edge) → IsEdge s zero n g → g.path ≡ 0
unfolding IsEdge
leaf_path s n g is = is.1

pub leaf_place : {T : Type 0} (s : Heap T) (n : ℕ) (g : Edge) → offset s zero n g ≡ g.index
unfolding offset
leaf_place s n g = refl

pub turn_within : {T : Type 0} (s : Heap T) (d n : ℕ) (g : Edge) → IsEdge s (suc d) n g
    → turn g < length (node_children s n)
unfolding IsEdge
turn_within s d n g is = is.0

pub edge_inside : {T : Type 0} (s : Heap T) (d n : ℕ) (g : Edge) → IsEdge s (suc d) n g
    → IsEdge s d (node_child s n (turn g)) (inside g)
unfolding IsEdge
edge_inside s d n g is = is.1

-- an edge by the child that it is below
pub edge_above : {T : Type 0} (s : Heap T) (d n i : ℕ) (g h : Edge) → turn h ≡ i → inside h ≡ g
    → i < length (node_children s n) → IsEdge s d (node_child s n i) g → IsEdge s (suc d) n h
unfolding IsEdge
edge_above s d n i g h at within small is = rw (at, within) (small, is)

pub place_above : {T : Type 0} (s : Heap T) (d n i : ℕ) (g h : Edge) → turn h ≡ i → inside h ≡ g
    → offset s (suc d) n h ≡ length (before_child s (suc d) n i) + offset s d (node_child s n i) g
unfolding offset
place_above s d n i g h at within = rw (at, within) refl

pub place_inside : {T : Type 0} (s : Heap T) (d n : ℕ) (g : Edge)
    → offset s (suc d) n g ≡ length (before_child s (suc d) n
    (turn g)) + offset s d (node_child s n (turn g)) (inside g)
unfolding offset
place_inside s d n g = refl

-- no edge lies past the end
pub place_within : {T : Type 0} {s : Heap T} (d : ℕ) {n : ℕ} (g : Edge) {least most : ℕ}
    → ShapedBut least most s d n → IsEdge s d n g → offset s d n g ≤ length (items_below s (suc d) n)
place_within {T} {s} zero {n} g {least} {most} shaped is =
    omega (arith, leaf_place, leaf_index, ap length (items_below_leaf s n shaped.node.branches))
place_within {T} {s} (suc d) {n} g {least} {most} shaped is =
    let xs = node_items s n in
    let lists = child_lists s (suc d) n in
    let i = turn g in
    let low : i ≤ length xs = omega (arith, turn_within s d n g is) in
    let further = place_within d (inside g) (kid_shaped d i shaped low) (edge_inside s d n g is) in
    let whole = items_below_at (omega arith) shaped i low in
    grind (arith, place_inside, length-append)

pub agree_kid : {T : Type 0} (s t : Heap T) (d i : ℕ) (ks : List ℕ)
    → AgreeAt s t (flat_map (used s d) ks) → i < length ks → AgreeAt s t (used s d (get_or ks i 0))
agree_kid s t d i ks agree within k among = agree k (used_kid s d i ks k among within)

module _ {T : Type 0} where
  -- an edge is the same in two slabs that agree at the nodes below
  pub record SameEdge (s t : Heap T) (d n : ℕ) (g : Edge) : Type 0 where
    pub edge : IsEdge s d n g → IsEdge t d n g
    pub offset : offset t d n g ≡ offset s d n g

pub same_edge : {T : Type 0} (s t : Heap T) (d n : ℕ) (g : Edge) → AgreeAt s t (used s (suc d) n)
    → IsEdge s d n g → SameEdge s t d n g
unfolding used IsEdge offset
same_edge s t zero n g agree is =
    grind (arith, occurrences_here)
same_edge s t (suc d) n g agree is =
    let ks = node_children s n in
    let here : node_of t n ≡ node_of s n =
    agree n (occurrences_here n (flat_map (used s (suc d)) ks)) in
    let below = AgreeAt-right s t (n ∷ []) (flat_map (used s (suc d)) ks) agree in
    let lists = (same_children s t (suc d) ks below).items_below_same in
    let kid =
    same_edge s t d (get_or ks (turn g) 0) (inside g)
    (agree_kid s t (suc d) (turn g) ks below is.0) is.1 in
    record { edge = λ h. rw here (h.0, kid.edge h.1); offset = rw (here, lists, kid.offset) refl }
