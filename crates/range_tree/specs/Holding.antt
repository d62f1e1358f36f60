-- What a `BoxStorage` holds, and what it is once an item was written.
use Rattle.std.specs.Prelude.{◌≡◌, ◌⊎◌, ℕ, zero, suc, ◌+◌, ◌-◌, ◌*◌, ◌<◌, ◌^◌, List, length, Option, Some, None, slice_set, min, refl}
use Rattle.std.proofs.Common.{get_or, sym, ap, ◌∙◌, inl, inr, arith}
use Rattle.std.proofs.Math.ListN.{set, length-set}
use Rattle.std.proofs.lemmas.Bool.{cases_lt, cases_eq}
use Rattle.std.proofs.lemmas.List.{set_past}
use Rattle.range_nodes.specs.Heap.{Heap, with_item, node_items, node_children}
use Rattle.range_tree.specs.Nodes.{items_below, IsRoomy}
use Rattle.range_tree.specs.Edges.{turn, inside, IsEdge, offset, home_of}
use Rattle.range_tree.specs.EndLeaves.{end_leaves_kept}
use Rattle.range_store.specs.ListRanks.{rank_or_len}
use Rattle.range_nodes.proofs.Heaps.{item_written}
use Rattle.range_tree.specs.Written.{SameShape, turned, length_same, tree_same, edge_same, place_same, IsHome, home_is, home_item, home_set, home_within, written_shape, tree_once, root_shaped}
use Rattle.range_tree.specs.declared.btree.BoxStorage.{BoxStorage}
use Rattle.range_nodes.specs.declared.nodes.TheConstants.{CAPACITY, MAX_LEN, MIN_LEN}
use Rattle.range_tree.specs.declared.btree.searching.TheConstants.{MAX_ASKS}
use Rattle.range_tree.specs.declared.btree.path.Edge.{Edge}
use Rattle.range_tree.specs.declared.btree.path.Home.{Home}

module _ {T : Type 0} where
  -- the items in order
  abbrev pub box_items : BoxStorage T → List T
  box_items s = items_below s.nodes s.levels s.root

  -- how many levels of nodes the tree has
  abbrev pub level_count : BoxStorage T → ℕ
  level_count s = s.levels

  -- how many more items are sure to fit
  abbrev pub box_room : BoxStorage T → ℕ
  box_room s = min (MIN_LEN * s.nodes.capacity) MAX_LEN - length (box_items s)

  -- an empty tree has no edge
  pub record IsBoxEdge (s : BoxStorage T) (point : Edge) : Type 0 where
    pub some : 0 < s.levels
    pub edge : IsEdge s.nodes (s.levels - 1) s.root point

  -- how many items stand before an edge, and where the last of them does
  abbrev pub box_offset : BoxStorage T → Edge → ℕ
  box_offset s edge = offset s.nodes (s.levels - 1) s.root edge

  abbrev pub box_home : BoxStorage T → Edge → Home
  box_home s edge = home_of s.nodes (s.levels - 1) s.root edge

  -- how many items stand before an edge, or, where none is given, before the end
  abbrev pub edge_or_end : BoxStorage T → Option Edge → ℕ
  edge_or_end s None = length (box_items s)
  edge_or_end s (Some edge) = box_offset s edge

  -- the edge after the item of this rank, or none past the last
  abbrev pub IsNextEdge : BoxStorage T → Option Edge → ℕ → Type 0
  IsNextEdge s None rank = rank ≡ length (box_items s)
  IsNextEdge s (Some edge) rank = IsBoxEdge s edge × (box_offset s edge ≡ rank + 1)

  -- an edge after an item, for which it stands
  pub record IsGood (s : BoxStorage T) (edge : Edge) : Type 0 where
    pub is : IsBoxEdge s edge
    pub some : 0 < box_offset s edge

  edge_or_not : (s : Heap T) (d n : ℕ) (g : Edge) → IsEdge s d n g ⊎ (IsEdge s d n g → ⊥)
  unfolding IsEdge
  edge_or_not s zero n g =
      elim (cases_eq g.leaf n) [
        | inr other ↦ inr (λ is. other is.0)
        | inl leaf ↦
            elim (cases_eq g.path 0) [
              | inr other ↦ inr (λ is. other is.1)
              | inl path ↦
                  elim (cases_lt (length (node_items s n)) g.index) [
                    | inl past ↦ inr (λ is. omega (arith, past, is.2))
                    | inr within ↦ inl (leaf, path, within)
                  ]
            ]
      ]
  edge_or_not s (suc d) n g =
      elim (cases_lt (turn g) (length (node_children s n))) [
        | inr past ↦ inr (λ is. omega (arith, past, is.0))
        | inl within ↦
            elim (edge_or_not s d _ (inside g)) [
              | inl is ↦ inl (within, is)
              | inr other ↦ inr (λ is. other is.1)
            ]
      ]

  -- whether an edge is good
  abbrev pub Decided : BoxStorage T → Edge → Type 0
  Decided s edge = IsGood s edge ⊎ (IsGood s edge → ⊥)

  pub good_or_not : (s : BoxStorage T) (edge : Edge) → Decided s edge
  good_or_not s edge =
      elim (cases_lt 0 s.levels) [
        | inr none ↦ inr (λ good. omega (arith, none, good.is.some))
        | inl some ↦
            elim (edge_or_not s.nodes (s.levels - 1) s.root edge) [
              | inr other ↦ inr (λ good. other good.is.edge)
              | inl is ↦
                  elim (cases_lt 0 (box_offset s edge)) [
                    | inl later ↦
                        inl (record { is = record { some = some; edge = is }; some = later })
                    | inr first ↦ inr (λ good. omega (arith, first, good.some))
                  ]
            ]
      ]

  -- the rank of the item before a good edge; any other edge has the rank of the end
  abbrev pub rank_as : (s : BoxStorage T) (edge : Edge) → Decided s edge → ℕ
  rank_as s edge (inl good) = box_offset s edge - 1
  rank_as s edge (inr bad) = length (box_items s)

  abbrev pub box_rank : BoxStorage T → Edge → ℕ
  box_rank s edge = rank_as s edge (good_or_not s edge)

  -- the rank of a position, or the end of the list
  abbrev pub box_rank_or_len : BoxStorage T → Option Edge → ℕ
  box_rank_or_len s before = rank_or_len (box_rank s) (length (box_items s)) before

  rank_when : {s : BoxStorage T} {edge : Edge} (decided : Decided s edge) → IsGood s edge
      → rank_as s edge decided ≡ box_offset s edge - 1
  rank_when {s} {edge} (inl _) good = refl
  rank_when (inr bad) good = absurd (bad good)

  pub rank_is : {s : BoxStorage T} {edge : Edge} → IsGood s edge
      → box_rank s edge ≡ box_offset s edge - 1
  rank_is {s} {edge} good = rank_when (good_or_not s edge) good

  -- the item before a good edge has a home
  pub good_home : {s : BoxStorage T} {edge : Edge} → IsGood s edge → IsHome s.nodes (s.levels - 1)
      s.root (box_home s edge).node (box_home s edge).index (box_offset s edge - 1)
  good_home {s} {edge} good = home_is s.nodes 1 CAPACITY (s.levels - 1) s.root edge
      (root_shaped s.levels good.is.some s.whole.tree) (tree_once good.is.some s.whole.tree)
      good.is.edge good.some

module _ {T : Type 0} (s : BoxStorage T) (edge : Edge) (good : IsGood s edge) where
  level : suc (s.levels - 1) ≡ s.levels
  level = omega (arith, good.is.some)

  pub good_within : box_offset s edge - 1 < length (box_items s)
  good_within = rw level at (home_within s.nodes (good_home good))

  abbrev now : T → Heap T
  now x = with_item s.nodes (box_home s edge).node (box_home s edge).index x

  pub written_nodes : (x : T) → SameShape s.nodes (now x)
  written_nodes x =
      let home = good_home good in
      written_shape s.nodes (length-set _ (box_home s edge).index x)
      (item_written s.nodes (box_home s edge).node (box_home s edge).index x home.present)

  pub written_items : (x : T)
      → items_below (now x) s.levels s.root ≡ set (box_items s) (box_offset s edge - 1) x
  written_items x =
      let home = good_home good in
      rw level at (home_set s.nodes home x
      (item_written s.nodes (box_home s edge).node (box_home s edge).index x home.present))

  -- the item before the edge
  pub good_item : (e : T)
      → get_or (box_items s) (box_offset s edge - 1) e
      ≡ get_or (node_items s.nodes (box_home s edge).node) (box_home s edge).index e
  good_item e = rw level at (home_item s.nodes (good_home good) e)

  pub written_roomy : (x : T) → IsRoomy (now x) s.levels s.root
  written_roomy x =
      let many = length_same (written_nodes x) s.levels s.root in
      record {
        tree = tree_same (written_nodes x) s.whole.tree;
        fits = omega (arith, many, s.whole.fits);
        counted = omega (arith, many, s.whole.counted);
      }

  -- the storage with another item before a good edge
  abbrev pub with_good_item : T → BoxStorage T
  with_good_item x =
      record s {
        nodes = with_item s.nodes (box_home s edge).node (box_home s edge).index x;
        whole = written_roomy x;
        counted = s.counted ∙ sym (length_same (written_nodes x) s.levels s.root);
        ended = end_leaves_kept s.nodes (now x) (written_nodes x).children s.ended;
      }

  pub good_then : (x : T) {other : Edge} → IsGood s other → IsGood (with_good_item x) other ×
      (box_offset (with_good_item x) other ≡ box_offset s other)
  good_then x {other} is =
      let same = place_same (written_nodes x) (s.levels - 1) s.root other in (
        record {
          is = record {
            some = is.is.some;
            edge = edge_same (written_nodes x) (s.levels - 1) s.root other is.is.edge;
          };
          some = omega (arith, same, is.some);
        },
        same,
      )

  good_before : (x : T) {other : Edge} → IsGood (with_good_item x) other → IsGood s other
  good_before x {other} is =
      let back = turned s.nodes (now x) (written_nodes x) in
      let same = place_same back (s.levels - 1) s.root other in
      record {
        is = record {
          some = is.is.some;
          edge = edge_same back (s.levels - 1) s.root other is.is.edge;
        };
        some = omega (arith, same, is.some);
      }

  rank_kept : (x : T) (other : Edge) (new : Decided (with_good_item x) other)
      (old : Decided s other) → rank_as (with_good_item x) other new ≡ rank_as s other old
  rank_kept x other (inl _) (inl _) = ap (λ m. m - 1)
      (place_same (written_nodes x) (s.levels - 1) s.root other)
  rank_kept x other (inl is) (inr bad) = absurd (bad (good_before x is))
  rank_kept x other (inr bad) (inl is) = absurd (bad (good_then x is).0)
  rank_kept x other (inr _) (inr _) = length_same (written_nodes x) s.levels s.root

module _ {T : Type 0} where
  -- the storage with another item before an edge, if it is a good one
  abbrev pub with_item_as : (s : BoxStorage T) (edge : Edge) → Decided s edge → T → BoxStorage T
  with_item_as s edge (inl good) x = with_good_item s edge good x
  with_item_as s edge (inr bad) x = s

  abbrev pub with_box_item : BoxStorage T → Edge → T → BoxStorage T
  with_box_item s edge x = with_item_as s edge (good_or_not s edge) x

  items_as : (s : BoxStorage T) (edge : Edge) (decided : Decided s edge) (x : T)
      → box_items (with_item_as s edge decided x)
      ≡ slice_set (box_items s) (rank_as s edge decided) x
  items_as s edge (inl good) x = written_items s edge good x
  items_as s edge (inr bad) x = sym (set_past (box_items s) (length (box_items s)) x (omega arith))

  pub items_with_box_item : (s : BoxStorage T) (edge : Edge) (x : T)
      → box_items (with_box_item s edge x) ≡ slice_set (box_items s) (box_rank s edge) x
  items_with_box_item s edge x = items_as s edge (good_or_not s edge) x

  room_as : (s : BoxStorage T) (edge : Edge) (decided : Decided s edge) (x : T)
      → box_room (with_item_as s edge decided x) ≡ box_room s
  room_as s edge (inl good) x = ap (λ m. min (MIN_LEN * s.nodes.capacity) MAX_LEN - m)
      (length_same (written_nodes s edge good x) s.levels s.root)
  room_as s edge (inr bad) x = refl

  pub room_with_box_item : (s : BoxStorage T) (edge : Edge) (x : T)
      → box_room (with_box_item s edge x) ≡ box_room s
  room_with_box_item s edge x = room_as s edge (good_or_not s edge) x

  good_as : {s : BoxStorage T} (edge : Edge) (decided : Decided s edge) (x : T) {other : Edge}
      → IsGood s other → IsGood (with_item_as s edge decided x) other
  good_as {s} edge (inl good) x {other} is = (good_then s edge good x is).0
  good_as edge (inr bad) x is = is

  pub good_with_box_item : (s : BoxStorage T) (edge : Edge) (x : T) (other : Edge) → IsGood s other
      → IsGood (with_box_item s edge x) other
  good_with_box_item s edge x other is = good_as edge (good_or_not s edge) x is

  rank_of : (s : BoxStorage T) (edge : Edge) (decided : Decided s edge) (x : T) (other : Edge)
      → box_rank (with_item_as s edge decided x) other ≡ box_rank s other
  rank_of s edge (inl good) x other =
      rank_kept s edge good x other (good_or_not (with_good_item s edge good x) other)
      (good_or_not s other)
  rank_of s edge (inr bad) x other = refl

  pub rank_with_box_item : (s : BoxStorage T) (edge : Edge) (x : T) (other : Edge)
      → box_rank (with_box_item s edge x) other ≡ box_rank s other
  rank_with_box_item s edge x other = rank_of s edge (good_or_not s edge) x other

  pub good_in_range : (s : BoxStorage T) (edge : Edge) → IsGood s edge
      → box_rank s edge < length (box_items s)
  good_in_range s edge good = rw (rank_is good) (good_within s edge good)

  pub items_fit : (s : BoxStorage T) → length (box_items s) < 2 ^ 64
  items_fit s = omega (arith, s.whole.counted)

  pub none_asked_of_empty : (s : BoxStorage T) → length (box_items s) ≡ 0 → MAX_ASKS * s.levels ≡ 0
  none_asked_of_empty s none = let levels : s.levels ≡ 0 =
      s.levelled.empty (s.counted ∙ none) in rw levels refl
