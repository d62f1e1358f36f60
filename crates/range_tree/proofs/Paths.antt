-- A node above the leaves, and the edges and items below its children.
use Rattle.std.proofs.Common.{◌≡◌, ◌≢◌, ℕ, zero, suc, ◌+◌, ◌-◌, ◌<◌, ◌≤◌, length, refl, arith, cond, true, false, inl, inr}
use Rattle.range_nodes.specs.Heap.{Heap, node_items, node_children, node_child}
use Rattle.range_nodes.specs.declared.nodes.TheConstants.{CAPACITY}
use Rattle.range_tree.specs.declared.btree.path.Edge.{Edge}
use Rattle.range_tree.specs.Nodes.{items_below, ShapedBut, before_child}
use Rattle.range_tree.specs.Edges.{turn, inside, is_start, IsEdge, offset, home_of}
use Rattle.range_tree.specs.Written.{place_of_start, start_of_place}
use Rattle.range_tree.proofs.Below.{children_length, items_below_at, length-before_more, none_after_last}
use Rattle.range_tree.proofs.Edges.{edge_above, place_above, place_inside, edge_inside, turn_within, place_within}
use Rattle.range_tree.proofs.Rank.{kid_shaped}
use Rattle.std.proofs.lemmas.List.{length-append}
use Rattle.std.proofs.lemmas.Bool.{cases_eq}

pub home_leaf : {T : Type 0} (s : Heap T) (n : ℕ) (g : Edge)
    → home_of s zero n g ≡ record { node = n; index = g.index - 1 }
unfolding home_of
home_leaf s n g = refl

home_step : {T : Type 0} (s : Heap T) (d n : ℕ) (g : Edge)
    → home_of s (suc d) n g ≡ cond (is_start (inside g)) (record { node = n; index = turn g - 1 })
    (home_of s d (node_child s n (turn g)) (inside g))
unfolding home_of
home_step s d n g = refl

pub start_parts : (g : Edge) → is_start g ≡ true → (g.path ≡ 0) × (g.index ≡ 0)
start_parts g start = grind arith

-- nothing stands before an edge just where it is a start
pub stands_first : {T : Type 0} (s : Heap T) (d n : ℕ) (g : Edge) → is_start g ≡ true
    → offset s d n g ≡ 0
stands_first s d n g start = place_of_start s d n g (start_parts g start).0 (start_parts g start).1

pub not_start : {T : Type 0} {s : Heap T} {d n : ℕ} (g : Edge) → ShapedBut 1 CAPACITY s d n
    → IsEdge s d n g → is_start g ≡ false → 0 < offset s d n g
not_start {T} {s} {d} {n} g shaped is later =
    elim (cases_eq (offset s d n g) 0) [
      | inr some ↦ omega arith
      | inl none ↦ grind (arith, start_of_place s 1 CAPACITY d n g shaped is none)
    ]

module _ {T : Type 0} {s : Heap T} {b n : ℕ} (inner : b ≢ 0)
    (shaped : ShapedBut 1 CAPACITY s b n) where
  pub level_of_children : suc (b - 1) ≡ b
  level_of_children = omega arith

  deeper : ShapedBut 1 CAPACITY s (suc (b - 1)) n
  deeper = rw (← level_of_children) at shaped

  pub child_within : (i : ℕ) → i ≤ length (node_items s n) → i < length (node_children s n)
  child_within i low = omega (arith, children_length (omega arith) shaped)

  pub below_kid : (i : ℕ) → i ≤ length (node_items s n)
      → ShapedBut 1 CAPACITY s (b - 1) (node_child s n i)
  below_kid i low = grind (arith, kid_shaped (b - 1) i deeper low, deeper)

  pub below_turn : (g : Edge) → IsEdge s b n g → turn g ≤ length (node_items s n)
  below_turn g is = grind (arith, turn_within s (b - 1) n g (rw (← level_of_children) at is))

  pub below_inside : (g : Edge) → IsEdge s b n g
      → IsEdge s (b - 1) (node_child s n (turn g)) (inside g)
  below_inside g is = edge_inside s (b - 1) n g (rw (← level_of_children) at is)

  pub below_edge : (i : ℕ) (g h : Edge) → turn h ≡ i → inside h ≡ g → i ≤ length (node_items s n)
      → IsEdge s (b - 1) (node_child s n i) g → IsEdge s b n h
  below_edge i g h at within low is =
      rw level_of_children at (edge_above s (b - 1) n i g h at within (child_within i low) is)

  pub below_place : (i : ℕ) (g h : Edge) → turn h ≡ i → inside h ≡ g
      → offset s b n h ≡ length (before_child s b n i) + offset s (b - 1) (node_child s n i) g
  below_place i g h at within = rw level_of_children at (place_above s (b - 1) n i g h at within)

  pub below_here : (g : Edge)
      → offset s b n g ≡ length (before_child s b n (turn g))
      + offset s (b - 1) (node_child s n (turn g)) (inside g)
  below_here g = rw level_of_children at (place_inside s (b - 1) n g)

  pub below_most : (i : ℕ) (g : Edge) → i ≤ length (node_items s n)
      → IsEdge s (b - 1) (node_child s n i) g → offset s (b - 1) (node_child s n i) g
      ≤ length (items_below s b (node_child s n i))
  below_most i g low is = rw level_of_children at (place_within (b - 1) g (below_kid i low) is)

  -- after the last child stands nothing
  pub past_last : (i : ℕ) → i ≡ length (node_items s n) → length (before_child s b n i) + length
      (items_below s b (node_child s n i)) ≡ length (items_below s (suc b) n)
  past_last i last =
      grind (
        arith,
        items_below_at (omega arith) shaped i (omega arith),
        none_after_last (omega arith) shaped,
        length-append,
      )

  -- an edge at the end of the child at i is one before the next child
  pub before_next : (i : ℕ) → i < length (node_items s n) → length (before_child s b n (i + 1))
      ≡ length (before_child s b n i) + length (items_below s b (node_child s n i)) + 1
  before_next i low = length-before_more (omega arith) shaped i low

  -- where the item before an edge stands, which begins a child or goes further down
  pub home_above : (g : Edge) → is_start (inside g) ≡ true
      → home_of s b n g ≡ record { node = n; index = turn g - 1 }
  home_above g start = grind (arith, home_step)

  pub home_inside : (g : Edge) → is_start (inside g) ≡ false
      → home_of s b n g ≡ home_of s (b - 1) (node_child s n (turn g)) (inside g)
  home_inside g later = grind (arith, home_step)
