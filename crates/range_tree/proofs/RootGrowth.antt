-- A whole tree after an insertion: of the first item, below the root, and with a cut of the root.
use Rattle.std.proofs.Common.{◌≡◌, ℕ, zero, suc, ◌+◌, ◌-◌, ◌*◌, ◌<◌, ◌≤◌, List, [], ◌∷◌, ◌++◌, length, ap, ◌∙◌, arith, None, Some}
use Rattle.std.specs.List.{flat_map}
use Rattle.std.proofs.lemmas.List.{append-nil, length-append}
use Rattle.range_nodes.specs.Heap.{Heap, HasRoomFor, Stores, node_children}
use Rattle.range_nodes.specs.declared.nodes.Split.{Split}
use Rattle.range_nodes.specs.declared.nodes.TheConstants.{MAX_LEN, MIN_LEN}
use Rattle.range_tree.specs.declared.btree.path.Edge.{Edge}
use Rattle.range_tree.specs.Nodes.{items_below, used, IsTree, IsRoomy, here, Replaces}
use Rattle.range_tree.specs.Edges.{turn, inside, IsEdge, offset, IsSeat, seat_offset}
use Rattle.range_nodes.specs.Occurrences.{occurrences}
use Rattle.range_nodes.proofs.Occurrences.{occurrences-cons, occurrences-nil, occurrences_itself, occurrences_other}
use Rattle.range_tree.proofs.Below.{items_below_leaf, used_leaf, Shaped-from_but}
use Rattle.range_tree.proofs.Contents.{Holds, held_items_below, held_used, held_shape, held_new}
use Rattle.range_tree.specs.Depth.{HasLevels}
use Rattle.range_tree.proofs.Levels.{has_levels}
use Rattle.range_tree.proofs.Rank.{used_none}
use Rattle.range_tree.proofs.Room.{used_le}
use Rattle.range_tree.proofs.Seats.{seat_written}

-- a stored node is the only new one
Stores-here : {T : Type 0} {s t : Heap T} {n : ℕ} {xs : List T} {ks : List ℕ} → Stores s t n xs ks
    → (k : ℕ) → here t k ≡ here s k + occurrences k (n ∷ [])
Stores-here stored k = grind (arith, occurrences_itself, occurrences_other)

pub first_tree : {T : Type 0} {s t : Heap T} (levels : ℕ) {root n : ℕ} (item : T) → levels ≡ 0
    → IsTree s levels root → Stores s t n (item ∷ []) [] → IsTree t 1 n ×
    (items_below t 1 n ≡ item ∷ [])
first_tree {T} {s} {t} (suc d) {root} {n} item none tree stored = absurd (omega arith)
first_tree {T} {s} {t} zero {root} {n} item none tree stored =
    let childless : length (node_children t n) ≡ 0 = ap length stored.children_are in
    let whole : IsTree t 1 n = record {
      shaped = grind arith;
      once =
          λ k.
          grind (arith, used_leaf, Stores-here stored k, used_none s root, occurrences-nil k);
      len = omega (arith, ap length (used_leaf t n childless), ap length (used_none s root));
    } in
    (whole, items_below_leaf t n childless ∙ stored.items_are)

module _ {T : Type 0} where
  -- a tree with this list
  pub record IsGrown (s : Heap T) (levels root : ℕ) (list : List T) : Type 0 where
    pub tree : IsTree s levels root
    pub items_are : items_below s levels root ≡ list

-- what is known of it as a whole
pub grown_whole : {T : Type 0} {s : Heap T} {levels root : ℕ} {list : List T} (len : ℕ)
    → IsGrown s levels root list → len ≡ length list → length list ≤ MIN_LEN * s.capacity
    → length list ≤ MAX_LEN
    → IsRoomy s levels root × (len ≡ length (items_below s levels root)) × HasLevels len levels
grown_whole len grown many fits counted = grind (arith, has_levels)

module _ {T : Type 0} {s t : Heap T} {d root : ℕ} {list : List T} (tree : IsTree s (suc d) root)
    (step : Replaces s t d root None list) where
  whole : used t (suc d) root ++ [] ≡ used t (suc d) root
  whole = append-nil (used t (suc d) root)

pub kept_root : {T : Type 0} {s t : Heap T} (levels : ℕ) {root : ℕ} {list : List T} → 0 < levels
    → IsTree s levels root → Replaces s t (levels - 1) root None list → IsGrown t levels root list
kept_root levels some tree step' = grind (arith, append-nil)

pub kept_edge : {T : Type 0} (t : Heap T) (d root side : ℕ) (g : Edge)
    → IsSeat t (suc d) [] (root ∷ []) side g
    → IsEdge t d root g × (offset t d root g ≡ seat_offset t (suc d) [] (root ∷ []) side g)
unfolding IsSeat seat_offset
kept_edge t d root side g seat = grind arith

module _ {T : Type 0} {s t u : Heap T} {d root n : ℕ} (split : Split T) {list : List T}
    (tree : IsTree s (suc d) root) (step : Replaces s t d root (Some split) list)
    (stored : Stores t u n (split.middle ∷ []) (root ∷ split.right ∷ [])) where
  abbrev ts : List ℕ
  ts = root ∷ split.right ∷ []

  holds : Holds t u (suc d) n (split.middle ∷ []) ts
  holds = held_new stored (λ k among. grind arith)

  used_now : used u (suc (suc d)) n ≡ n ∷ flat_map (used t (suc d)) ts
  used_now = held_used holds

  taller_tree : IsTree u (suc (suc d)) n
  taller_tree =
      grind (arith, held_shape, holds, Shaped-from_but, used_now, occurrences-cons, Stores-here)

  taller_items_below : items_below u (suc (suc d)) n ≡ list
  taller_items_below = held_items_below holds ∙ step.listed

  taller_seat : (side : ℕ) (g h : Edge) → turn h ≡ side → inside h ≡ g
      → IsSeat t (suc d) (split.middle ∷ []) ts side g
      → IsEdge u (suc d) n h
      × (offset u (suc d) n h ≡ seat_offset t (suc d) (split.middle ∷ []) ts side g)
  taller_seat side g h at within seat =
      seat_written t u n (split.middle ∷ []) ts side g h (suc d) holds (λ k among. grind arith)
      (λ no. absurd (omega (arith, no))) (λ some. at) (λ some. within) seat

pub taller_root : {T : Type 0} {s t u : Heap T} (levels : ℕ) {root n : ℕ} (split : Split T)
    {list : List T} → 0 < levels → IsTree s levels root
    → Replaces s t (levels - 1) root (Some split) list
    → Stores t u n (split.middle ∷ []) (root ∷ split.right ∷ []) → IsGrown u (levels + 1) n list
taller_root {T} {s} {t} {u} zero {root} {n} split {list} some tree step stored =
    absurd (omega arith)
taller_root {T} {s} {t} {u} (suc d) {root} {n} split {list} some tree step' stored =
    let level : suc d - 1 ≡ d = omega arith in
    let step = rw level at step' in
    grind (arith, taller_tree split tree step stored, taller_items_below split tree step stored)

pub taller_edge : {T : Type 0} {s t u : Heap T} (levels : ℕ) {root n : ℕ} (side : ℕ)
    (split : Split T) {list : List T} (g h : Edge) → 0 < levels → IsTree s levels root
    → Replaces s t (levels - 1) root (Some split) list
    → Stores t u n (split.middle ∷ []) (root ∷ split.right ∷ []) → turn h ≡ side → inside h ≡ g
    → IsSeat t (suc (levels - 1)) (split.middle ∷ []) (root ∷ split.right ∷ []) side g
    → IsEdge u (levels + 1 - 1) n h × (offset u (levels + 1 - 1) n h ≡ seat_offset t
    (suc (levels - 1)) (split.middle ∷ []) (root ∷ split.right ∷ []) side g)
taller_edge {T} {s} {t} {u} zero {root} {n} side split {list} g h some tree step stored at within
    seat = absurd (omega arith)
taller_edge {T} {s} {t} {u}
    (suc d) {root} {n} side split {list} g h some tree step' stored at within seat' =
    let level : suc d - 1 ≡ d = omega arith in
    let step = rw level at step' in
    grind (arith, taller_seat split tree step stored side g h at within (rw level at seat'))

-- after a cut of the root there is capacity for a new one
pub taller_room : {T : Type 0} {s t : Heap T} (levels : ℕ) {root : ℕ} (split : Split T)
    {list : List T} → 0 < levels → length list ≤ MIN_LEN * s.capacity → IsTree s levels root
    → Replaces s t (levels - 1) root (Some split) list → HasRoomFor t 1
taller_room levels split some room tree step' =
    grind (arith, Shaped-from_but, used_le, length-append)
