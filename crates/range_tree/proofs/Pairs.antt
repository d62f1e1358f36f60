-- An edge below one of two children that are levelled.
use Rattle.std.proofs.Common.{◌≡◌, ◌⊎◌, ℕ, suc, ◌+◌, ◌-◌, ◌<◌, ◌≤◌, List, ◌∷◌, ◌++◌, length, get_or, map, inl, inr, arith}
use Rattle.std.proofs.lemmas.List.{length-map, get_or-map}
use Rattle.range_nodes.specs.Heap.{Heap, node_items, node_children, node_child}
use Rattle.range_nodes.specs.declared.nodes.TheConstants.{CAPACITY}
use Rattle.range_tree.specs.declared.btree.path.Edge.{Edge}
use Rattle.range_tree.specs.Nodes.{items_below, before, ShapedBut, IsLevelled, child_size}
use Rattle.range_tree.specs.Edges.{inside, seat_of, IsEdge, IsSeat, seat_offset}
use Rattle.range_tree.proofs.Edges.{leaf_index, turn_within}
use Rattle.range_tree.proofs.Weaving.{length-before_next}
use Rattle.range_tree.proofs.Joining.{seat_from_left, seat_from_right}
use Rattle.range_tree.proofs.Levelling.{pair_of}

pub seat_low : {T : Type 0} {s : Heap T} (low : ℕ) {k : ℕ} (g : Edge) {least : ℕ}
    → ShapedBut least CAPACITY s low k → IsEdge s low k g → seat_of low g ≤ length (node_items s k)
seat_low low g shaped is = grind (arith, leaf_index, turn_within)

-- the seat of an edge below one of two neighbours, in either of them and among what both have
pub near_seat : {T : Type 0} {s : Heap T} {low n j : ℕ} (i : ℕ) (g : Edge) → IsLevelled s low n j
    → (i ≡ j) ⊎ (i ≡ j + 1) → IsEdge s low (node_child s n i) g
    → child_size s n j + 1 + child_size s n (j + 1) ≤ CAPACITY → (seat_of low g ≤ CAPACITY) ×
    ((q : ℕ) → (i - j ≡ 0 → q ≡ seat_of low g) →
    (0 < i - j → q ≡ child_size s n j + 1 + seat_of low g) → q ≤ CAPACITY)
near_seat {T} {s} {low} i g levelled (inl same) is few =
    grind (arith, seat_low low g levelled.left (rw same at is))
near_seat {T} {s} {low} i g levelled (inr next) is few =
    grind (arith, seat_low low g levelled.right (rw next at is))

module _ {T : Type 0} {s : Heap T} {low n j : ℕ} (x : T) (levelled : IsLevelled s low n j)
    (here : x ≡ get_or (node_items s n) j x) where
  abbrev xs : List T
  xs = node_items s n

  abbrev ks : List ℕ
  ks = node_children s n

  abbrev l : ℕ
  l = node_child s n j

  abbrev r : ℕ
  r = node_child s n (j + 1)

  abbrev wide_items : List T
  wide_items = node_items s l ++ (x ∷ node_items s r)

  abbrev wide_children : List ℕ
  wide_children = node_children s l ++ node_children s r

  pub pair_seat : (i : ℕ) (g : Edge) (q : ℕ) → (i ≡ j) ⊎ (i ≡ j + 1)
      → IsEdge s low (get_or ks i 0) g → (i - j ≡ 0 → q ≡ seat_of low g)
      → (0 < i - j → q ≡ length (node_items s l) + 1 + seat_of low g)
      → IsSeat s low wide_items wide_children q (inside g)
      × (length (before xs (map (items_below s (suc low)) ks) j) + seat_offset s low wide_items
      wide_children q (inside g) ≡ seat_offset s (suc low) xs ks i g)
  unfolding seat_offset
  pair_seat i g q (inl same) is left right =
      grind (arith, seat_from_left s l x r g low (pair_of x levelled here) (rw same at is))
  pair_seat i g q (inr next) is left right =
      grind (
        arith,
        seat_from_right s l x r g low (pair_of x levelled here) (rw next at is),
        get_or-map,
        length-before_next,
        length-map,
      )
