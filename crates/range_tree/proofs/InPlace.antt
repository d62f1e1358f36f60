-- A leaf with other items, below nodes that stay as they were.
use Rattle.std.proofs.Common.{◌≡◌, ℕ, zero, suc, ◌+◌, ◌-◌, ◌<◌, ◌≤◌, List, [], ◌++◌, length, sym, ap, ◌∙◌, arith}
use Rattle.std.specs.List.{insert, remove}
use Rattle.std.proofs.lemmas.List.{append-nil, length-append, nil_from_length}
use Rattle.std.proofs.lemmas.List.Edits.{length-insert, length-remove}
use Rattle.range_nodes.specs.Heap.{Heap, Writes, node_items, node_children, node_child}
use Rattle.range_nodes.specs.declared.nodes.TheConstants.{CAPACITY, MIN_LEN}
use Rattle.range_tree.specs.declared.btree.BoxStorage.{BoxStorage}
use Rattle.range_tree.specs.declared.btree.path.Edge.{Edge}
use Rattle.range_tree.specs.Nodes.{items_below, Shaped, ShapedBut, Owned, IsRewritten, IsTree, before_child, after_child}
use Rattle.range_tree.specs.Edges.{turn, inside, IsEdge, offset}
use Rattle.range_tree.specs.Holding.{box_items, IsBoxEdge, box_offset}
use Rattle.range_tree.proofs.Below.{items_below_at, items_below_leaf, shaped_within_wider, Shaped-from_but}
use Rattle.range_tree.proofs.Contents.{Holds, written_holds, held_items_below, held_used, bare_content}
use Rattle.range_tree.proofs.Edges.{leaf_edge, leaf_place, edge_above, place_inside}
use Rattle.range_tree.proofs.Growing.{kid_owned}
use Rattle.range_tree.proofs.Moves.{Writes-moves}
use Rattle.range_tree.proofs.Rank.{kid_shaped}
use Rattle.range_tree.specs.Written.{root_shaped}
use Rattle.range_tree.proofs.Shortening.{ListsAnew, kid_kept, kid_moved, kid_listed, kid_front, kid_children, remove_middle}
use Rattle.range_tree.proofs.InLeaf.{IsLeafOf, leaf_of_edge}
use Rattle.range_tree.proofs.Roots.{tree_owned}
use Rattle.range_tree.specs.Weave.{regroup}
use Rattle.range_tree.proofs.Weaving.{insert_middle}

module _ {T : Type 0} where
  -- below the node n, the leaf of the edge g has these items; the others stand before and after
  -- them
  pub record IsLeafEdit (s t : Heap T) (d n : ℕ) (g : Edge) (items : List T) : Type 0 where
    pub front : List T
    pub rest : List T
    pub was : items_below s (suc d) n ≡ front ++ (node_items s g.leaf ++ rest)
    pub place_is : offset s d n g ≡ length front + g.index
    pub rewritten : IsRewritten s t d n (front ++ (items ++ rest))
    pub edges : (h : Edge) → h.leaf ≡ g.leaf → h.path ≡ g.path → h.index ≤ length items
        → IsEdge t d n h × (offset t d n h ≡ length front + h.index)

-- of a leaf itself
module _ {T : Type 0} {s t : Heap T} {n : ℕ} (g : Edge) {items : List T}
    (fits : length items ≤ CAPACITY) (enough : (least : ℕ) → least ≤ MIN_LEN → least ≤ length
    (node_items s n) → least ≤ length items) (shaped : ShapedBut 1 CAPACITY s zero n)
    (owned : Owned s 1 n) (written : Writes s t n items (node_children s n)) where
  holds : Holds s t zero n items (node_children s n)
  holds = written_holds t (bare_content items shaped owned) written

  edited_here : g.leaf ≡ n → g.path ≡ 0 → IsLeafEdit s t zero n g items
  edited_here at first =
      let childless = nil_from_length (node_children s n) shaped.node.branches in
      record {
        front = [];
        rest = [];
        was = rw at (items_below_leaf s n shaped.node.branches ∙ sym (append-nil (node_items s n)));
        place_is = omega (arith, leaf_place s n g);
        rewritten =
            grind (arith, held_items_below holds, append-nil items, held_used, holds, Writes-moves);
        edges =
            grind (arith, leaf_edge, holds, leaf_place);
      }

-- of a leaf below the child through which the path goes
module _ {T : Type 0} {s t : Heap T} {d n : ℕ} (g : Edge) {items : List T}
    (shaped : ShapedBut 1 CAPACITY s (suc d) n) (owned : Owned s (suc (suc d)) n)
    (low : turn g ≤ length (node_items s n)) (within : turn g < length (node_children s n))
    (below : IsLeafEdit s t d (node_child s n (turn g)) (inside g) items)
  where
    abbrev fore : List T
    fore = before_child s (suc d) n (turn g)

    abbrev behind : List T
    behind = after_child s (suc d) n (turn g)

    anew : ListsAnew s t (suc d) n (turn g) (below.front ++ (items ++ below.rest))
    anew = grind arith

    kid_now : Shaped t (suc d) (node_child s n (turn g))
    kid_now = grind (arith, Shaped-from_but, kid_shaped d (turn g) shaped low)

    edited_above : IsLeafEdit s t (suc d) n g items
    edited_above = record {
      front = fore ++ below.front;
      rest = below.rest ++ behind;
      was = items_below_at (omega arith) shaped (turn g) low
          ∙ ap (λ zs. fore ++ (zs ++ behind)) below.was
          ∙ regroup fore below.front (node_items s g.leaf) below.rest behind;
      place_is = omega (arith, place_inside s d n g, length-append fore below.front);
      rewritten = record {
        listed = kid_listed anew ∙ regroup fore below.front items below.rest behind;
        moved = kid_moved anew;
        shape = λ least small old. grind (arith, kid_kept anew, kid_children, kid_now);
      };
      edges = λ h leaf path index.
          grind (arith, kid_kept anew, place_inside, kid_front, edge_above, length-append);
    }

pub leaf_edit : {T : Type 0} {s t : Heap T} (d : ℕ) {n : ℕ} (g : Edge) {items : List T}
    → length items ≤ CAPACITY → ((least : ℕ) → least ≤ MIN_LEN → least ≤ length
    (node_items s g.leaf) → least ≤ length items) → ShapedBut 1 CAPACITY s d n
    → Owned s (suc d) n → IsEdge s d n g → Writes s t g.leaf items (node_children s g.leaf)
    → IsLeafEdit s t d n g items
unfolding IsEdge
leaf_edit {T} {s} {t} zero {n} g {items} fits enough shaped owned is written = edited_here g fits
    (rw is.0 at enough) shaped owned (rw is.0 at written) is.0 is.1
leaf_edit {T} {s} {t} (suc d) {n} g {items} fits enough shaped owned is written =
    let low : turn g ≤ length (node_items s n) = omega (arith, is.0, shaped.node.branches) in
    let kid_whole = shaped_within_wider 1 CAPACITY (omega arith) (omega arith)
    (kid_shaped d (turn g) shaped low) in
    edited_above g shaped owned low is.0 (leaf_edit d (inside g) fits enough kid_whole
    (kid_owned s (suc d) n (turn g) owned is.0) is.1 written)

-- an item more, before the edge
module _ {T : Type 0} {s t : Heap T} {d n : ℕ} (item : T) {g : Edge}
    (edit : IsLeafEdit s t d n g (insert (node_items s g.leaf) g.index item))
    (within : g.index ≤ length (node_items s g.leaf)) where
  pub inserted_in_leaf : edit.front ++ (insert (node_items s g.leaf) g.index item ++ edit.rest)
      ≡ insert (items_below s (suc d) n) (offset s d n g) item
  inserted_in_leaf = grind (arith, insert_middle)

-- an item less, from before the edge
module _ {T : Type 0} {s t : Heap T} {d n : ℕ} {g : Edge}
    (edit : IsLeafEdit s t d n g (remove (node_items s g.leaf) (g.index - 1)))
    (some : 0 < g.index) (within : g.index ≤ length (node_items s g.leaf)) where
  pub removed_in_leaf : edit.front ++ (remove (node_items s g.leaf) (g.index - 1) ++ edit.rest)
      ≡ remove (items_below s (suc d) n) (offset s d n g - 1)
  removed_in_leaf =
      let at : length edit.front + (g.index - 1) ≡ offset s d n g - 1 = omega arith in
      grind (arith, remove_middle)

-- the leaf of an edge of a whole tree, with an item more or less
module _ {T : Type 0} {t : BoxStorage T} (new : Heap T) {g : Edge} (is : IsBoxEdge t g) where
  abbrev items : List T
  items = node_items t.nodes g.leaf

  level : suc (t.levels - 1) ≡ t.levels
  level = omega (arith, is.some)

  shaped : ShapedBut 1 CAPACITY t.nodes (t.levels - 1) t.root
  shaped = root_shaped t.levels is.some t.whole.tree

  owned : Owned t.nodes (suc (t.levels - 1)) t.root
  owned = rw level (tree_owned t.whole.tree)

  leaf : IsLeafOf t.nodes g
  leaf = leaf_of_edge (t.levels - 1) g shaped is.edge

  -- the tree then, and the edge there that has so many items of the leaf before it
  pub record IsLeafChange (list : List T) (h : Edge) (before : ℕ) : Type 0 where
    pub tree : IsTree new t.levels t.root
    pub items_are : items_below new t.levels t.root ≡ list
    pub capacity : new.capacity ≡ t.nodes.capacity
    pub edge : IsEdge new (t.levels - 1) t.root h
    pub place_is : offset new (t.levels - 1) t.root h + g.index ≡ box_offset t g + before

  pub put_in_leaf : (item : T) (h : Edge) → length items < CAPACITY
      → Writes t.nodes new g.leaf (insert items g.index item) (node_children t.nodes g.leaf)
      → h.leaf ≡ g.leaf → h.path ≡ g.path → h.index ≡ g.index + 1
      → IsLeafChange (insert (box_items t) (box_offset t g) item) h h.index
  put_in_leaf item h room written at path next =
      let within = leaf.within in
      let more = length-insert items g.index item within in
      let edit = leaf_edit (t.levels - 1) g (omega (arith, more, room))
      (λ least small old. omega (arith, more, old)) shaped owned is.edge written in
      grind (arith, level, inserted_in_leaf item edit within)

  pub take_from_leaf : (h : Edge) → MIN_LEN < length items → 0 < g.index
      → Writes t.nodes new g.leaf (remove items (g.index - 1))
      (node_children t.nodes g.leaf) → h.leaf ≡ g.leaf → h.path ≡ g.path
      → h.index ≡ g.index - 1 → IsLeafChange (remove (box_items t) (box_offset t g - 1)) h h.index
  take_from_leaf h spare some written at path back =
      let within = leaf.within in
      let less = length-remove items (g.index - 1) (omega (arith, within, some)) in
      let edit = leaf_edit (t.levels - 1) g (omega (arith, less, leaf.fits))
      (λ least small old. omega (arith, less, spare, small)) shaped owned is.edge written in
      grind (arith, level, removed_in_leaf edit some within)
