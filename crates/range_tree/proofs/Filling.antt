-- What a leaf gives to its neighbour under the same node, and what that means for the nodes above.
use Rattle.std.proofs.Common.{◌≡◌, ◌≢◌, ℕ, zero, suc, ◌+◌, ◌-◌, ◌/◌, ◌%◌, ◌<◌, ◌≤◌, ◌++◌, List, [], length, take_all, refl, ap, ◌∙◌, sym, subst, inl, inr, arith}
use Rattle.std.proofs.lemmas.Bool.{cases_eq}
use Rattle.std.proofs.lemmas.List.{drop_all, nil_from_length}
use Rattle.std.proofs.lemmas.List.Elements.{All-take, All-drop}
use Rattle.range_nodes.specs.Heap.{Heap, children_of, Writes, Rotates, RotatesLeft, RotatesRight, node_items, node_children, node_child}
use Rattle.range_nodes.specs.declared.nodes.TheConstants.{CAPACITY, MIN_LEN}
use Rattle.range_tree.specs.declared.btree.path.Edge.{Edge}
use Rattle.range_tree.specs.declared.btree.path.TheConstants.{PATH_BASE}
use Rattle.range_tree.specs.Nodes.{items_below, Shaped, ShapedBut, Owned, Shrinks, Refills, IsRewritten, IsLevelled, IsTree, child_size}
use Rattle.range_tree.specs.Edges.{turn, inside, IsEdge, offset}
use Rattle.range_tree.specs.Frame.{IsNode-same}
use Rattle.range_tree.proofs.Below.{items_below_at, shaped_within_wider, Shaped-from_but}
use Rattle.range_tree.proofs.Edges.{edge_above, edge_inside, leaf_index, leaf_is, leaf_path, place_above, turn_within}
use Rattle.range_tree.proofs.Moves.{Moves-then}
use Rattle.range_tree.proofs.Rank.{kid_shaped}
use Rattle.range_tree.proofs.RootGrowth.{IsGrown}
use Rattle.range_tree.proofs.Rotating.{next_edge_before, next_kept, next_shrinks, previous_edge_behind, previous_kept, previous_shrinks}
use Rattle.range_tree.proofs.Seats.{seat_place_inner}
use Rattle.range_tree.proofs.Shortening.{ListsAnew, kid_kept, kid_moved, kid_listed, kid_front, kid_children}

pub refills_then : {T : Type 0} {r s t : Heap T} {d n : ℕ} → Refills r s d n → Refills s t d n
    → Refills r t d n
refills_then first second = record {
  rewritten = record {
    listed = second.rewritten.listed ∙ first.rewritten.listed;
    moved = Moves-then first.rewritten.moved second.rewritten.moved;
    shape = λ least small shaped. second.rewritten.shape least small
        (first.rewritten.shape least small shaped);
  };
  children = λ k. second.children k ∙ first.children k;
}

pub refills_owned : {T : Type 0} {s t : Heap T} {d n : ℕ} → Refills s t d n → Owned s (suc d) n
    → Owned t (suc d) n
refills_owned refills owned k = omega (arith, refills.rewritten.moved.owned k, owned k)

-- a node that kept its children
written_children : {T : Type 0} {s t : Heap T} (m : ℕ) {items : List T} {children : List ℕ}
    → Writes s t m items children → children ≡ node_children s m → (k : ℕ)
    → node_children t k ≡ node_children s k
written_children m written same k =
    elim (cases_eq k m) [
      | inl at ↦ rw at (written.children_are ∙ same)
      | inr other ↦ ap (λ node. children_of node) (written.others k other)
    ]

rotated_children : {T : Type 0} {s u : Heap T} (n j : ℕ) {lefts rights items : List T}
    {left_kids right_kids : List ℕ} → Rotates s u n j lefts rights items left_kids right_kids
    → left_kids ≡ node_children s (node_child s n j)
    → right_kids ≡ node_children s (node_child s n (j + 1)) → (k : ℕ)
    → node_children u k ≡ node_children s k
rotated_children {T} {s} {u} n j rotates left right k =
    let one = written_children (node_child s n j) rotates.left left in
    let two = written_children (node_child s n (j + 1)) rotates.right
    (right ∙ sym (one (node_child s n (j + 1)))) in
    let three = written_children n rotates.parent (sym (one n) ∙ sym (two n)) in
    three k ∙ two k ∙ one k

-- two neighbours that are not short
pub kids_levelled : {T : Type 0} {s : Heap T} (low : ℕ) {n : ℕ} (j : ℕ)
    → ShapedBut 1 CAPACITY s (suc low) n → Owned s (suc (suc low)) n
    → j < length (node_items s n) → IsLevelled s low n j
kids_levelled {T} {s} low {n} j shaped owned within =
    let left = kid_shaped low j shaped (omega (arith, within)) in
    let right = kid_shaped low (j + 1) shaped (omega (arith, within)) in
    record {
      node = shaped.node;
      owned = owned;
      within = within;
      before = All-take (Shaped s (suc low)) j (node_children s n) shaped.children;
      left = shaped_within_wider (MIN_LEN - 1) CAPACITY (omega arith) (omega arith) left;
      right = shaped_within_wider (MIN_LEN - 1) CAPACITY (omega arith) (omega arith) right;
      behind = All-drop (Shaped s (suc low)) (j + 2) (node_children s n) shaped.children;
      enough = omega (arith, left.node.enough, right.node.enough);
    }

-- a child that is not full
pub kid_room : {T : Type 0} {s : Heap T} {n : ℕ} (j : ℕ) → ShapedBut 1 CAPACITY s 1 n
    → j ≤ length (node_items s n) → {k many : ℕ} → k ≡ node_child s n j
    → many ≡ length (node_items s k) → many ≢ CAPACITY → child_size s n j < CAPACITY
kid_room {T} {s} j shaped low at counted other =
    let same = ap (λ k. length (node_items s k)) at in
    omega (arith, (kid_shaped 0 j shaped low).node.fits, same, counted, other)

-- a node of which no child went
levelled_rewritten : {T : Type 0} {s u : Heap T} {d n : ℕ}
    → Shrinks s u d n (items_below s (suc d) n) → length (node_items u n) ≡ length (node_items s n)
    → ShapedBut 1 CAPACITY s d n → IsRewritten s u d n (items_below s (suc d) n)
levelled_rewritten shrinks kept shaped =
    let now = shrinks.shape 0 (omega (arith, shaped.node.enough)) in
    record {
      listed = shrinks.listed;
      moved = shrinks.moved;
      shape = λ least small old. record {
        node = record {
          present = now.node.present;
          enough = omega (arith, kept, old.node.enough);
          fits = now.node.fits;
          branches = now.node.branches;
        };
        children = now.children;
      };
    }

edge_is : (g : Edge) (leaf index : ℕ) → g.leaf ≡ leaf → g.path ≡ 0 → g.index ≡ index
    → g ≡ record { leaf = leaf; path = 0; index = index }
edge_is g leaf index at first here =
    ap (λ k. record { leaf = k; path = g.path; index = g.index }) at
    ∙ ap (λ p. record { leaf = leaf; path = p; index = g.index }) first
    ∙ ap (λ i. record { leaf = leaf; path = 0; index = i }) here

-- an edge in a leaf of which an item went to the neighbour
module _ {T : Type 0} {s : Heap T} {n : ℕ} (shaped : ShapedBut 1 CAPACITY s 1 n)
    (owned : Owned s 2 n) (g : Edge) (is : IsEdge s 1 n g) where
  low_turn : turn g ≤ length (node_items s n)
  low_turn = omega (arith, turn_within s 0 n g is, shaped.node.branches)

  inner : IsEdge s 0 (node_child s n (turn g)) (inside g)
  inner = edge_inside s 0 n g is

  childless : (j : ℕ) → j ≤ length (node_items s n)
      → node_children s (node_child s n j) ≡ []
  childless j low = nil_from_length _ (kid_shaped 0 j shaped low).node.branches

  -- to the one before it
  module _ {u : Heap T} (j : ℕ) (next : j + 1 ≡ turn g) (rotates : RotatesLeft s u n j)
      (many : MIN_LEN < g.index) (room : child_size s n j < CAPACITY) where
    low_pair : j < length (node_items s n)
    low_pair = omega (arith, next, low_turn)

    levelled : IsLevelled s 0 n j
    levelled = kids_levelled 0 j shaped owned low_pair

    there : IsEdge s 0 (node_child s n (j + 1)) (inside g)
    there = subst (λ k. IsEdge s 0 (node_child s n k) (inside g)) (sym next) inner

    spare : MIN_LEN < child_size s n (j + 1)
    spare = omega (arith, leaf_index s (node_child s n (j + 1)) (inside g) there, many)

    pub before_refills : Refills s u 1 n
    before_refills =
        let left = childless j (omega (arith, low_pair)) in
        let right = childless (j + 1) (omega (arith, low_pair)) in
        record {
          rewritten = levelled_rewritten (previous_shrinks levelled rotates spare room)
              (previous_kept levelled rotates spare room) shaped;
          children = rotated_children n j rotates.rotates (rw (left, right) refl) (rw right refl);
        }

    pub before_edge : (h : Edge) → h.leaf ≡ g.leaf → h.path ≡ g.path → h.index + 1 ≡ g.index
        → IsEdge u 1 n h × (offset u 1 n h ≡ offset s 1 n g)
    before_edge h leaf path index =
        let kid = node_child s n (j + 1) in
        let first : (inside h).path ≡ 0 =
        ap (λ w. w / PATH_BASE) path ∙ leaf_path s kid (inside g) there in
        let back : (inside h).index ≡ (inside g).index - 1 = omega (arith, index) in
        let some : 0 < (inside g).index = omega (arith, many) in
        let moved = previous_edge_behind levelled rotates spare room (inside g) (inside h) h there
        some
        (λ none. edge_is (inside h) kid ((inside g).index - 1)
        (leaf ∙ leaf_is s kid (inside g) there) first back)
        (λ some'. absurd (omega (arith, some'))) (λ some'. absurd (omega (arith, some')))
        (ap (λ w. w % PATH_BASE) path ∙ sym next) refl in (
          moved.0,
          moved.1
              ∙ seat_place_inner s 0 (node_items s n) (node_children s n) (j + 1) (inside g)
              ∙ sym (place_above s 0 n (j + 1) (inside g) g (sym next) refl),
        )

  -- to the one after it
  module _ {u : Heap T} (rotates : RotatesRight s u n (turn g))
      (later : turn g < length (node_items s n)) (many : MIN_LEN < child_size s n (turn g))
      (room : child_size s n (turn g + 1) < CAPACITY) where
    level : IsLevelled s 0 n (turn g)
    level = kids_levelled 0 (turn g) shaped owned later

    pub behind_refills : Refills s u 1 n
    behind_refills =
        let left = childless (turn g) low_turn in
        record {
          rewritten = levelled_rewritten (next_shrinks level rotates many room)
              (next_kept level rotates many room) shaped;
          children = rotated_children n (turn g) rotates.rotates
              (rw left (take_all _ [] (omega arith)))
              (rw left (ap (λ zs. zs ++ node_children s (node_child s n (turn g + 1)))
              (drop_all _ [] (omega arith))));
        }

    pub behind_edge : g.index < child_size s n (turn g)
        → IsEdge u 1 n g × (offset u 1 n g ≡ offset s 1 n g)
    behind_edge early =
        let moved = next_edge_before level rotates many room (inside g) g inner early refl refl in (
          moved.0,
          moved.1
              ∙ seat_place_inner s 0 (node_items s n) (node_children s n) (turn g) (inside g)
              ∙ sym (place_above s 0 n (turn g) (inside g) g refl refl),
        )

-- a node above, of which a child was refilled
module _ {T : Type 0} {s t : Heap T} {d n i : ℕ} (shaped : ShapedBut 1 CAPACITY s (suc d) n)
    (owned : Owned s (suc (suc d)) n) (low : i ≤ length (node_items s n))
    (below : Refills s t d (node_child s n i)) where
  anew : ListsAnew s t (suc d) n i (items_below s (suc d) (node_child s n i))
  anew = record {
    inner = λ none. omega (arith, none);
    shaped = shaped;
    owned = owned;
    low = low;
    listed = below.rewritten.listed;
    moved = below.rewritten.moved;
  }

  kid_now : Shaped t (suc d) (node_child s n i)
  kid_now = Shaped-from_but t d (node_child s n i)
      (below.rewritten.shape MIN_LEN (omega arith) (kid_shaped d i shaped low))

  above_refills : Refills s t (suc d) n
  above_refills = record {
    rewritten = record {
      listed = kid_listed anew ∙ sym (items_below_at (omega arith) shaped i low);
      moved = kid_moved anew;
      shape = λ least small old. record {
        node = IsNode-same t (kid_kept anew) old.node;
        children = kid_children anew kid_now;
      };
    };
    children = below.children;
  }

  above_edge : (g e h : Edge) → turn g ≡ i → turn h ≡ i → inside h ≡ e
      → IsEdge t d (node_child s n i) e
      → offset t d (node_child s n i) e ≡ offset s d (node_child s n i) (inside g)
      → IsEdge t (suc d) n h × (offset t (suc d) n h ≡ offset s (suc d) n g)
  above_edge g e h at turned into is same =
      let within : i < length (node_children s n) = omega (arith, low, shaped.node.branches) in
      let up = rw (kid_kept anew) at (place_above t d n i e h turned into) in
      let front = rw (kid_kept anew) at (kid_front anew) in (
        edge_above t d n i e h turned into (rw (kid_kept anew) within) (rw (kid_kept anew) is),
        omega (arith, up, front, same, place_above s d n i (inside g) g at refl),
      )

pub refilled : {T : Type 0} {s t : Heap T} (b : ℕ) {n : ℕ} (i : ℕ) → b ≢ 0
    → ShapedBut 1 CAPACITY s b n → Owned s (suc b) n → i ≤ length (node_items s n)
    → Refills s t (b - 1) (node_child s n i) → Refills s t b n
refilled zero i inner shaped owned low below = absurd (inner refl)
refilled (suc d) i inner shaped owned low below =
    let level : suc d - 1 ≡ d = omega arith in above_refills shaped owned low (rw level at below)

pub refilled_edge : {T : Type 0} {s t : Heap T} (b : ℕ) {n : ℕ} (i : ℕ) → b ≢ 0
    → ShapedBut 1 CAPACITY s b n → Owned s (suc b) n → i ≤ length (node_items s n)
    → Refills s t (b - 1) (node_child s n i) → (g e h : Edge) → turn g ≡ i → turn h ≡ i
    → inside h ≡ e → IsEdge t (b - 1) (node_child s n i) e
    → offset t (b - 1) (node_child s n i) e ≡ offset s (b - 1) (node_child s n i) (inside g)
    → IsEdge t b n h × (offset t b n h ≡ offset s b n g)
refilled_edge zero i inner shaped owned low below g e h at turned into is same =
    absurd (inner refl)
refilled_edge (suc d) i inner shaped owned low below g e h at turned into is same =
    let level : suc d - 1 ≡ d = omega arith in
    above_edge shaped owned low (rw level at below) g e h at turned into (rw level at is)
    (rw level at same)

-- a whole tree of which the root was refilled
pub refilled_root : {T : Type 0} {s t : Heap T} (levels : ℕ) {root : ℕ} → 0 < levels
    → IsTree s levels root → Refills s t (levels - 1) root
    → IsGrown t levels root (items_below s levels root)
refilled_root zero some tree refills = absurd (omega arith)
refilled_root (suc d) some tree refills =
    let level : suc d - 1 ≡ d = omega arith in
    let now = (rw level at refills).rewritten in
    record {
      tree = record {
        shaped = now.shape 1 (omega arith) tree.shaped;
        once = λ k. omega (arith, tree.once k, now.moved.owned k);
        len = omega (arith, tree.len, now.moved.len);
      };
      items_are = now.listed;
    }
