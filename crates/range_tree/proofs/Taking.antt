-- A whole list after an item was taken out of it.
use Rattle.std.proofs.Common.{◌≡◌, ℕ, suc, ◌+◌, ◌-◌, ◌*◌, ◌<◌, ◌≤◌, length, get_or, ap, arith}
use Rattle.std.specs.List.{remove}
use Rattle.std.specs.Prelude.{min}
use Rattle.std.proofs.lemmas.List.Edits.{length-remove, get_or-remove_below}
use Rattle.range_nodes.specs.Heap.{Heap, with_item, node_items}
use Rattle.range_tree.specs.Edges.{IsEdge, offset}
use Rattle.range_tree.specs.EndLeaves.{HasEndLeaves}
use Rattle.range_tree.specs.Holding.{box_items, box_room, IsBoxEdge, box_offset, box_home, IsGood, good_item, good_then, written_items, with_good_item}
use Rattle.range_tree.specs.Nodes.{items_below, IsRoomy}
use Rattle.range_tree.specs.declared.btree.BoxStorage.{BoxStorage}
use Rattle.range_nodes.specs.declared.nodes.TheConstants.{MAX_LEN, MIN_LEN}
use Rattle.range_tree.specs.declared.btree.path.Edge.{Edge}
use Rattle.range_tree.specs.declared.btree.path.Home.{Home}
use Rattle.range_tree.proofs.InLeaf.{moved_down}

-- one less
module _ {T : Type 0} (s t : BoxStorage T) (p : ℕ) (some : 0 < p)
    (within : p ≤ length (box_items s)) (list : box_items t ≡ remove (box_items s) (p - 1)) where
  pub one_fewer : length (box_items t) + 1 ≡ length (box_items s)
  one_fewer = omega (arith, ap length list, length-remove)

  pub room_grows : t.nodes.capacity ≡ s.nodes.capacity → box_room s + 1 ≤ box_room t
  room_grows capacity = omega (arith, one_fewer, s.whole.fits, s.whole.counted, capacity)

pub space_grows : {T : Type 0} (s : BoxStorage T) (p : ℕ) (n : Heap T) (levels root : ℕ) → 0 < p
    → p ≤ length (box_items s) → items_below n levels root ≡ remove (box_items s) (p - 1)
    → n.capacity ≡ s.nodes.capacity
    → box_room s + 1 ≤ min (MIN_LEN * n.capacity) MAX_LEN - length
    (items_below n levels root)
space_grows s p n levels root some within list capacity =
    omega (arith, ap length list, length-remove)

module _ {T : Type 0} where
  -- the nodes n of the storage t are those of s without the item before an edge; another edge lies
  -- after the one that followed
  pub record IsReplaced (s t : BoxStorage T) (g : Edge) (n : Heap T) (left : Edge) : Type 0 where
    pub roomy : IsRoomy n t.levels t.root
    pub many : t.len ≡ length (items_below n t.levels t.root)
    pub ended : HasEndLeaves t.nodes t.levels t.root t.ends → HasEndLeaves n t.levels t.root t.ends
    pub items_are : items_below n t.levels t.root ≡ remove (box_items s) (box_offset s g - 1)
    pub capacity : n.capacity ≡ s.nodes.capacity
    pub edge : IsEdge n (t.levels - 1) t.root left
    pub place_is : offset n (t.levels - 1) t.root left ≡ box_offset s g - 1 + 1

-- the item after one was taken out of its leaf, and takes the place of that
module _ {T : Type 0} (s t : BoxStorage T) (g behind left : Edge) (some : 0 < box_offset s g)
    (within : box_offset s behind ≤ length (box_items s))
    (beside : box_offset s behind ≡ box_offset s g + 1)
    (list : box_items t ≡ remove (box_items s) (box_offset s behind - 1)) (edge : IsBoxEdge t left)
    (at : box_offset t left + 1 ≡ box_offset s behind) where
  pub good_left : IsGood t left
  good_left = record { is = edge; some = omega (arith, at, beside, some) }

  back : box_offset s behind - 1 ≡ suc (box_offset s g - 1)
  back = omega (arith, beside, some)

  pub replaced : (next : T) (n : Heap T) (h : Home) → h ≡ box_home t left
      → n ≡ with_item t.nodes h.node h.index next → t.nodes.capacity ≡ s.nodes.capacity
      → next ≡ get_or (box_items s) (box_offset s behind - 1) next → IsReplaced s t g n left
  replaced next n h at_home written capacity was =
      grind (
        arith,
        moved_down (box_items s) (box_offset s g - 1) next (omega arith) (rw back at was),
        written_items t left good_left next,
        good_then t left good_left next good_left,
        with_good_item t left good_left next,
      )

  pub replaced_item : (r : T) (h : Home) → h ≡ box_home t left
      → r ≡ get_or (node_items t.nodes h.node) h.index r
      → r ≡ get_or (box_items s) (box_offset s g - 1) r
  replaced_item r h at_home was = grind (arith, good_item, get_or-remove_below)
