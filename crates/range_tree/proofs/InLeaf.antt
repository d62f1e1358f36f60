-- An edge within its leaf.
use Rattle.std.proofs.Common.{◌≡◌, ℕ, zero, suc, ◌+◌, ◌-◌, ◌/◌, ◌<◌, ◌≤◌, List, [], ◌∷◌, length, get_or, refl, ap, arith, IsSome, ◌%◌}
use Rattle.std.specs.List.{remove}
use Rattle.std.proofs.Math.ListN.{set}
use Rattle.range_nodes.specs.Heap.{Heap, node_of, node_items, node_children, node_child}
use Rattle.range_nodes.specs.declared.nodes.TheConstants.{CAPACITY}
use Rattle.range_tree.specs.declared.btree.path.TheConstants.{PATH_BASE}
use Rattle.range_tree.specs.declared.btree.path.Edge.{Edge}
use Rattle.range_tree.specs.Nodes.{ShapedBut}
use Rattle.range_tree.specs.Edges.{turn, inside, IsEdge, offset, home_of}
use Rattle.range_tree.proofs.Below.{shaped_within_wider}
use Rattle.range_tree.proofs.Rank.{kid_shaped}

-- a leaf has no child to be taken
pub no_child_gone : (ks : List ℕ) → length ks ≡ 0 → remove ks 0 ≡ ks
no_child_gone ks none = grind arith

-- what stands before it there stands before it below the node
pub place_index : {T : Type 0} (s : Heap T) (d n : ℕ) (g : Edge) → g.index ≤ offset s d n g
unfolding offset
place_index s zero n g = omega arith
place_index s (suc d) n g = omega (arith, place_index s d (node_child s n (turn g)) (inside g))

module _ {T : Type 0} where
  -- the leaf that an edge lies in
  pub record IsLeafOf (s : Heap T) (g : Edge) : Type 0 where
    pub present : IsSome (node_of s g.leaf)
    pub some : 0 < length (node_items s g.leaf)
    pub fits : length (node_items s g.leaf) ≤ CAPACITY
    pub childless : length (node_children s g.leaf) ≡ 0
    pub within : g.index ≤ length (node_items s g.leaf)

pub leaf_of_edge : {T : Type 0} {s : Heap T} (d : ℕ) {n : ℕ} (g : Edge) → ShapedBut 1 CAPACITY s d n
    → IsEdge s d n g → IsLeafOf s g
unfolding IsEdge
leaf_of_edge zero {n} g shaped is = grind arith
leaf_of_edge {T} {s} (suc d) {n} g shaped is =
    let low : turn g ≤ length (node_items s n) = omega arith in
    grind (
      arith,
      leaf_of_edge d (inside g) (shaped_within_wider 1 CAPACITY (omega arith) (omega arith)
          (kid_shaped d (turn g) shaped low)) is.1,
    )

-- another edge in it
pub leaf_beside : {T : Type 0} (s : Heap T) (d n : ℕ) (g h : Edge) → h.leaf ≡ g.leaf
    → h.path ≡ g.path → h.index ≤ length (node_items s g.leaf) → IsEdge s d n g
    → IsEdge s d n h × (offset s d n h + g.index ≡ offset s d n g + h.index)
unfolding IsEdge offset
leaf_beside s zero n g h leaf path index is =
    grind arith
leaf_beside s (suc d) n g h leaf path index is =
    let first : turn h ≡ turn g = ap (λ w. w % PATH_BASE) path in
    let rest =
    leaf_beside s d (node_child s n (turn g)) (inside g)
    (inside h) leaf (ap (λ w. w / PATH_BASE) path) index is.1 in
    rw first ((is.0, rest.0), omega (arith, rest.1))

-- the item before it
pub leaf_home : {T : Type 0} (s : Heap T) (d n : ℕ) (g : Edge) → IsEdge s d n g → 0 < g.index
    → home_of s d n g ≡ record { node = g.leaf; index = g.index - 1 }
unfolding IsEdge home_of
leaf_home s zero n g is some = rw is.0 refl
leaf_home s (suc d) n g is some = grind (arith, leaf_home s d _ (inside g) is.1 some)

-- an item that takes the place of its predecessor, once it was taken out
pub moved_down : {X : Type 0} (xs : List X) (q : ℕ) (y : X) → suc q < length xs
    → y ≡ get_or xs (suc q) y → set (remove xs (suc q)) q y ≡ remove xs q
moved_down [] q y within here = absurd (omega arith)
moved_down (x ∷ []) q y within here = absurd (omega arith)
moved_down (x ∷ z ∷ xs) zero y within here = rw here refl
moved_down (x ∷ z ∷ xs) (suc q) y within here =
    ap (λ zs. x ∷ zs) (moved_down (z ∷ xs) q y (omega arith) here)
