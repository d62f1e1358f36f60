-- Edges in a node that is to be written, by their seats.
use Rattle.std.proofs.Common.{◌≡◌, ℕ, zero, suc, ◌+◌, ◌-◌, ◌^◌, ◌<◌, ◌≤◌, List, ◌++◌, length, get_or, take, drop, map, refl, ap, ◌∙◌, arith, Option, Some, take-add, take-take, get_or-take, get_or-drop}
use Rattle.std.specs.List.{flat_map, sum_by}
use Rattle.std.proofs.lemmas.List.{length-append, length-map, length-take-le, length-drop, take-map, drop-map, map-append, get_or-append-add, get_or_append_left, take-append-le}
use Rattle.std.proofs.lemmas.List.Sums.{sum_by-append}
use Rattle.range_nodes.specs.Heap.{Heap, child_count}
use Rattle.range_nodes.specs.declared.nodes.Split.{Split}
use Rattle.range_tree.specs.declared.btree.path.Edge.{Edge}
use Rattle.range_tree.specs.declared.btree.path.TheConstants.{MAX_LEVELS}
use Rattle.range_tree.specs.Nodes.{weave, before, items_below, used, tops, separators}
use Rattle.range_tree.specs.Edges.{turn, inside, IsEdge, offset, IsSeat, seat_offset}
use Rattle.range_tree.proofs.Edges.{agree_kid, same_edge, path_small}
use Rattle.range_store.proofs.Edits.{take-append-add}
use Rattle.range_tree.specs.Frame.{AgreeAt}
use Rattle.range_tree.proofs.Contents.{Holds}
use Rattle.range_tree.specs.Weave.{length-before, length-weave}

-- an edge at a seat of a node that was written
module _ {T : Type 0} (s t : Heap T) (n : ℕ) (xs : List T) (ks : List ℕ) (i : ℕ) (g h : Edge) where
  pub seat_written : (d : ℕ) → Holds s t d n xs ks → AgreeAt s t (flat_map (used s d) ks)
      → (d ≡ 0 → h ≡ record { leaf = n; path = 0; index = i }) → (0 < d → turn h ≡ i)
      → (0 < d → inside h ≡ g) → IsSeat s d xs ks i g
      → IsEdge t d n h × (offset t d n h ≡ seat_offset s d xs ks i g)
  unfolding IsEdge offset IsSeat seat_offset
  seat_written zero holds agree leaf at within seat =
      rw (leaf refl) ((refl, refl, rw holds.items_are seat), refl)
  seat_written (suc d) holds agree leaf at within seat =
      let kid =
      same_edge s t d (get_or ks i 0) g (agree_kid s t (suc d) i ks agree seat.0) seat.1 in
      grind arith

pub seat_small : {T : Type 0} (s : Heap T) (d : ℕ) (xs : List T) (ks : List ℕ) (i : ℕ) (g : Edge)
    → length ks ≡ child_count d (length xs) → IsSeat s d xs ks i g → i ≤ length xs
unfolding IsSeat
seat_small s d xs ks i g branches seat = grind arith

pub seat_path : {T : Type 0} (s : Heap T) (d : ℕ) (xs : List T) (ks : List ℕ) (i : ℕ) (g : Edge)
    → d < MAX_LEVELS → 0 < d → IsSeat s d xs ks i g → g.path < 2 ^ 60
unfolding IsSeat
seat_path s zero xs ks i g deep some seat = absurd (omega arith)
seat_path s (suc d) xs ks i g deep some seat = path_small s d _ g (omega (arith, deep)) seat.1

-- a cut at `half` leaves an edge in the first part, at the same seat
module _ {T : Type 0} (s : Heap T) (half : ℕ) (xs : List T) (ks : List ℕ) (i : ℕ) (g : Edge)
    (low : half < length xs) where
  pub seat_left : (d : ℕ) → length ks ≡ child_count d (length xs) → i ≤ half → IsSeat s d xs ks i g
      → IsSeat s d (take half xs) (take (half + 1) ks) i g
      × (seat_offset s d (take half xs) (take (half + 1) ks) i g ≡ seat_offset s d xs ks i g)
  unfolding IsSeat seat_offset
  seat_left d branches small seat = grind (arith, length-take-le, get_or-take, take-take, take-map)

  -- or in the second part
  pub seat_right : (d : ℕ) → length ks ≡ child_count d (length xs) → half < i → IsSeat s d xs ks i g
      → IsSeat s d (drop (half + 1) xs) (drop (half + 1) ks) (i - half - 1) g
      × (length (weave (take half xs) (map (items_below s d) (take (half + 1) ks))) + 1 + seat_offset
      s d (drop (half + 1) xs) (drop (half + 1) ks) (i - half - 1) g ≡ seat_offset s d xs ks i g)
  unfolding IsSeat seat_offset
  seat_right d branches large seat =
      grind (
        arith,
        length-drop,
        length-take-le,
        length-map,
        get_or-drop,
        length-before,
        take-add,
        sum_by-append,
        length-weave,
        take-map,
        drop-map,
      )

-- an edge below a node, or below the one after it, among the two
module _ {T : Type 0} (s : Heap T) (d n : ℕ) (g : Edge) where
  pub seat_alone : (split : Option (Split T)) → IsEdge s d n g
      → IsSeat s (suc d) (separators split) (tops n split) 0 g
      × (seat_offset s (suc d) (separators split) (tops n split) 0 g ≡ offset s d n g)
  unfolding IsSeat seat_offset
  seat_alone split is = grind arith

  pub seat_beside : (split : Split T) → IsEdge s d split.right g
      → IsSeat s (suc d) (separators (Some split)) (tops n (Some split)) 1 g
      × (seat_offset s (suc d) (separators (Some split)) (tops n (Some split)) 1 g
      ≡ length (items_below s (suc d) n) + 1 + offset s d split.right g)
  unfolding IsSeat seat_offset
  seat_beside split is = grind (arith, length-append)

-- an edge in a run of children, among all of them
module _ {T : Type 0} (s : Heap T) (d : ℕ) (us ts vs : List ℕ) (xs seps ys : List T) (i j : ℕ)
    (g : Edge) (many : length us ≡ i) (items : length xs ≡ i)
    (more : length ts ≡ length seps + 1) where
  pub seat_run : IsSeat s (suc d) seps ts j g
      → IsSeat s (suc d) (xs ++ (seps ++ ys)) (us ++ (ts ++ vs)) (i + j) g
      × (seat_offset s (suc d) (xs ++ (seps ++ ys)) (us ++ (ts ++ vs)) (i + j) g
      ≡ i + sum_by length (map (items_below s (suc d)) us) + seat_offset s (suc d) seps ts j g)
  unfolding IsSeat seat_offset
  seat_run seat =
      let f = items_below s (suc d) in
      let kid : get_or (us ++ (ts ++ vs)) (i + j) 0 ≡ get_or ts j 0 =
      grind (arith, get_or-append-add, get_or_append_left) in
      let lists : map f (us ++ (ts ++ vs)) ≡ map f us ++ (map f ts ++ map f vs) =
      map-append f us (ts ++ vs) ∙ ap (λ zs. map f us ++ zs) (map-append f ts vs) in
      let us_many : length (map f us) ≡ i = length-map us f ∙ many in
      let ts_many : length (map f ts) ≡ length seps + 1 = length-map ts f ∙ more in
      grind (
        arith,
        length-before,
        length-append,
        take-append-add (map f us) (map f ts ++ map f vs) (i + j) j (omega arith),
        take-append-le j (map f ts) (map f vs) (omega arith),
        sum_by-append,
      )

pub seat_side : {T : Type 0} (s : Heap T) (d : ℕ) (xs : List T) (ks : List ℕ) (i : ℕ) (g : Edge)
    → IsSeat s (suc d) xs ks i g → i < length ks
unfolding IsSeat
seat_side s d xs ks i g seat = seat.0

pub seat_inside : {T : Type 0} (s : Heap T) (d : ℕ) (xs : List T) (ks : List ℕ) (i : ℕ) (g : Edge)
    → IsSeat s (suc d) xs ks i g → IsEdge s d (get_or ks i 0) g
unfolding IsSeat
seat_inside s d xs ks i g seat = seat.1

pub seat_place_inner : {T : Type 0} (s : Heap T) (d : ℕ) (xs : List T) (ks : List ℕ) (i : ℕ)
    (g : Edge)
    → seat_offset s (suc d) xs ks i g
    ≡ length (before xs (map (items_below s (suc d)) ks) i) + offset s d (get_or ks i 0) g
unfolding seat_offset
seat_place_inner s d xs ks i g = refl
