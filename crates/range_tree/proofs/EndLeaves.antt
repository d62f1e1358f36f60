-- The edges before all items and after them, by the leaves at the ends.
use Rattle.std.proofs.Common.{◌≡◌, ℕ, zero, suc, ◌+◌, ◌-◌, ◌<◌, ◌≤◌, ◌++◌, List, length, refl, sym, ap, ◌∙◌, arith, inl, inr}
use Rattle.std.proofs.lemmas.Bool.{cases_eq, cases_lt}
use Rattle.std.proofs.lemmas.List.{length-append}
use Rattle.range_nodes.specs.Heap.{Heap, Writes, children_of, node_items, node_children, node_child}
use Rattle.range_tree.specs.declared.btree.BoxStorage.{BoxStorage}
use Rattle.range_tree.specs.declared.btree.path.Edge.{Edge}
use Rattle.range_tree.specs.declared.btree.path.EndLeaves.{EndLeaves}
use Rattle.range_tree.specs.Edges.{turn, inside, IsEdge, offset}
use Rattle.range_tree.specs.EndLeaves.{first_start, IsLastPath, AreEndLeaves, HasEndLeaves, end_leaves_kept}
use Rattle.range_tree.specs.Holding.{box_items, box_offset, IsBoxEdge}
use Rattle.range_tree.specs.Nodes.{items_below, ShapedBut, before_child, after_child}
use Rattle.range_tree.specs.Written.{place_of_start, root_shaped}
use Rattle.range_tree.proofs.Below.{items_below_at, items_below_leaf, length-before_more, none_after_last}
use Rattle.range_tree.proofs.Edges.{edge_inside, leaf_is, leaf_place, place_inside, place_within, turn_within}
use Rattle.range_tree.proofs.InLeaf.{leaf_beside}
use Rattle.range_tree.proofs.Rank.{kid_shaped}

module _ {T : Type 0} {s : Heap T} where
  -- where an edge after all items leads
  pub last_path : (d : ℕ) {n : ℕ} (g : Edge) {least most : ℕ} → ShapedBut least most s d n
      → IsEdge s d n g → offset s d n g ≡ length (items_below s (suc d) n)
      → IsLastPath s d n g.path
  unfolding IsLastPath
  last_path zero {n} g {least} {most} shaped is end = tt
  last_path (suc d) {n} g {least} {most} shaped is end =
      let i = turn g in
      let low : i ≤ length (node_items s n) =
      omega (arith, turn_within s d n g is, shaped.node.branches) in
      let kid = kid_shaped d i shaped low in
      let inner = edge_inside s d n g is in
      let fewer = place_within d (inside g) kid inner in
      let whole = items_below_at (omega arith) shaped i low in
      let parts : length (items_below s (suc (suc d)) n)
      ≡ length (before_child s (suc d) n i) + (length (items_below s (suc d) (node_child s n i))
      + length (after_child s (suc d) n i)) =
      ap length whole
      ∙ length-append (before_child s (suc d) n i)
      (items_below s (suc d) (node_child s n i) ++ after_child s (suc d) n i)
      ∙ ap (λ m. length (before_child s (suc d) n i) + m)
      (length-append (items_below s (suc d) (node_child s n i)) (after_child s (suc d) n i)) in
      elim (cases_lt i (length (node_items s n))) [
        | inl less ↦
            let more = length-before_more (omega arith) shaped i less in
            let later = items_below_at (omega arith) shaped (i + 1) (omega (arith, less)) in
            let fits : length (before_child s (suc d) n (i + 1))
            ≤ length (items_below s (suc (suc d)) n) =
            omega (
              arith,
              ap length later,
              length-append (before_child s (suc d) n (i + 1))
                  (items_below s (suc d) (node_child s n (i + 1))
                  ++ after_child s (suc d) n (i + 1)),
            ) in
            absurd (omega (arith, more, fits, fewer, end, place_inside s d n g))
        | inr last ↦
            let at : i ≡ length (node_items s n) = omega (arith, last, low) in
            let none : length (after_child s (suc d) n i) ≡ 0 =
            rw at (ap length (none_after_last (omega arith) shaped)) in (
              omega (arith, at, shaped.node.branches),
              last_path d (inside g) kid inner
                  (omega (arith, parts, none, end, place_inside s d n g)),
            )
      ]

  -- how many items stand before the edge after the last leaf's items
  pub place_of_last : (d : ℕ) {n : ℕ} (g : Edge) {least most : ℕ} → ShapedBut least most s d n
      → IsEdge s d n g → IsLastPath s d n g.path → g.index ≡ length (node_items s g.leaf)
      → offset s d n g ≡ length (items_below s (suc d) n)
  unfolding IsLastPath
  place_of_last zero {n} g {least} {most} shaped is last end =
      omega (
        arith,
        leaf_place s n g,
        end,
        ap (λ k. length (node_items s k)) (leaf_is s n g is),
        ap length (items_below_leaf s n shaped.node.branches),
      )
  place_of_last (suc d) {n} g {least} {most} shaped is last end =
      let i = turn g in
      let at : i ≡ length (node_items s n) = omega (arith, last.0, shaped.node.branches) in
      let low : i ≤ length (node_items s n) = omega (arith, at) in
      let below = place_of_last d (inside g) (kid_shaped d i shaped low) (edge_inside s d n g is)
      last.1 end in
      let none : length (after_child s (suc d) n i) ≡ 0 =
      rw at (ap length (none_after_last (omega arith) shaped)) in
      omega (
        arith,
        below,
        none,
        place_inside s d n g,
        ap length (items_below_at (omega arith) shaped i low),
        length-append (before_child s (suc d) n i)
            (items_below s (suc d) (node_child s n i) ++ after_child s (suc d) n i),
        length-append (items_below s (suc d) (node_child s n i)) (after_child s (suc d) n i),
      )

  -- the leaves of the edges before all items and after them
  pub are_end_leaves : {least most : ℕ} (d : ℕ) {n : ℕ} (g h : Edge) (ends : EndLeaves)
      → ShapedBut least most s d n → g.path ≡ 0 → g.index ≡ 0 → IsEdge s d n g → IsEdge s d n h
      → offset s d n h ≡ length (items_below s (suc d) n) → ends.first ≡ g.leaf
      → ends.last ≡ record h { index = 0 } → AreEndLeaves s d n ends
  are_end_leaves d {n} g h ends shaped path index first last end first_is last_is =
      let start = record h { index = 0 } in
      let before = (leaf_beside s d n h start refl refl (omega arith) last).0 in
      let front = (leaf_beside s d n g (first_start ends) first_is (sym path) (omega arith) first).0 in
      record {
        first = front;
        last = rw last_is before;
        start = ap (λ e. e.index) last_is;
        path = rw last_is (last_path d h shaped last end);
      }

-- an item more or less in a leaf
pub leaf_keeps_ends : {T : Type 0} {s t : Heap T} {leaf : ℕ} {items : List T} {levels root : ℕ}
    {ends : EndLeaves} → Writes s t leaf items (node_children s leaf)
    → HasEndLeaves s levels root ends → HasEndLeaves t levels root ends
leaf_keeps_ends {T} {s} {t} {leaf} {items} {levels} {root} {ends} written has =
    end_leaves_kept s t (λ k.
    elim (cases_eq k leaf) [
      | inl at ↦ rw at written.children_are
      | inr other ↦ ap (λ node. children_of node)
          (written.others k other)
    ]) has

module _ {T : Type 0} where
  -- the items below the root of a tree that has one
  box_levels : (s : BoxStorage T) → 0 < s.levels
      → items_below s.nodes (suc (s.levels - 1)) s.root ≡ box_items s
  box_levels s some =
      let level : suc (s.levels - 1) ≡ s.levels = omega (arith, some) in
      ap (λ levels. items_below s.nodes levels s.root) level

module _ {T : Type 0} (s : BoxStorage T) (some : 0 < s.levels) where
  ends : AreEndLeaves s.nodes (s.levels - 1) s.root s.ends
  ends = s.ended some

  -- the edge before all items
  pub box_start : IsBoxEdge s (first_start s.ends) × (box_offset s (first_start s.ends) ≡ 0)
  box_start = (
    record { some = some; edge = ends.first },
    place_of_start s.nodes (s.levels - 1) s.root (first_start s.ends) refl refl,
  )

  abbrev end : Edge
  end = record s.ends.last { index = length (node_items s.nodes s.ends.last.leaf) }

  -- the edge after all items
  pub box_end : IsBoxEdge s end × (box_offset s end ≡ length (box_items s))
  box_end =
      let beside =
      leaf_beside s.nodes (s.levels - 1) s.root s.ends.last end refl refl (omega arith)
      ends.last in
      let shaped = root_shaped s.levels some s.whole.tree in (
        record { some = some; edge = beside.0 },
        place_of_last (s.levels - 1) end shaped beside.0 ends.path refl
            ∙ ap length (box_levels s some),
      )
