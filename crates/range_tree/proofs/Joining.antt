-- Two neighbours and the item between them, as one.
use Rattle.std.proofs.Common.{◌≡◌, ◌≢◌, ℕ, zero, suc, ◌+◌, ◌<◌, ◌≤◌, List, [], ◌∷◌, ◌++◌, length, get_or, take, drop, map, refl, sym, arith, Some, None, ap, ◌∙◌}
use Rattle.std.specs.List.{flat_map}
use Rattle.std.proofs.lemmas.List.{append-nil, append_assoc, length-append, length-map, map-append}
use Rattle.std.proofs.lemmas.List.Concat.{flat_map-append}
use Rattle.std.proofs.lemmas.List.Elements.{All-append, All-cons, All-nil}
use Rattle.range_nodes.specs.Heap.{Heap, node_of, Writes, Removes, node_items, node_children}
use Rattle.range_nodes.specs.declared.nodes.Split.{Split}
use Rattle.range_nodes.specs.declared.nodes.TheConstants.{CAPACITY, MIN_LEN}
use Rattle.range_tree.specs.declared.btree.path.Edge.{Edge}
use Rattle.range_tree.specs.Nodes.{weave, items_below, used, Shaped}
use Rattle.range_tree.specs.Edges.{turn, inside, seat_of, IsEdge, offset, IsSeat, seat_offset}
use Rattle.range_tree.specs.Contents.{IsContent}
use Rattle.range_nodes.specs.Occurrences.{occurrences}
use Rattle.range_nodes.proofs.Occurrences.{occurrences-append, occurrences-cons, occurrences_itself}
use Rattle.range_tree.specs.Weave.{weave_cut}
use Rattle.range_tree.specs.Frame.{AgreeAt}
use Rattle.range_tree.proofs.Below.{weave_items_below, used_is, items_below_leaf, Shaped-from_but}
use Rattle.range_tree.proofs.Room.{items_below_size}
use Rattle.range_tree.proofs.Moves.{here_le, SameNodes, Moves-like, Moves-then, Writes-moves, Removes-moves}
use Rattle.range_tree.proofs.Contents.{IsPair, Rejoins, Holds, held_after, held_items_below, held_used, held_shape, content_apart, halves_listed, halves_nodes, halves_shape, part_agree}
use Rattle.range_tree.proofs.Seats.{seat_run}

module _ {T : Type 0} {s : Heap T} {d l r : ℕ} (x : T) (pair : IsPair s d l r) where
  abbrev xs : List T
  xs = node_items s l ++ (x ∷ node_items s r)

  abbrev ks : List ℕ
  ks = node_children s l ++ node_children s r

  abbrev F : List ℕ
  F = flat_map (used s d) (node_children s l ++ node_children s r)

  both : F ≡ flat_map (used s d) (node_children s l) ++ flat_map (used s d) (node_children s r)
  both = flat_map-append (used s d) (node_children s l) (node_children s r)

  pub pair_nodes : SameNodes (used s (suc d) l ++ used s (suc d) r) (r ∷ l ∷ F)
  pair_nodes = grind (arith, used_is, occurrences-append, occurrences-cons, both, length-append)

  pub pair_apart : l ≢ r
  pair_apart same =
      grind (arith, occurrences_itself r, pair_nodes.occur r, occurrences-cons, here_le s r)

  pub right_apart : (k : ℕ) → 0 < occurrences k F → k ≢ r
  right_apart k among same =
      grind (arith, occurrences_itself r, pair_nodes.occur k, occurrences-cons, here_le s k)

  pub pair_content : IsContent s d l xs ks
  pair_content = record {
    present = pair.left.node.present;
    shaped =
        All-append (Shaped s d) (node_children s l)
        (node_children s r) pair.left.children pair.right.children;
    branches = grind (arith, length-append);
    owned = λ k. omega (arith, pair_nodes.occur k, occurrences-cons, occurrences-cons k l F);
  }

  pub pair_listed : weave xs (map (items_below s d) ks) ≡ items_below s (suc d) l
      ++ (x ∷ items_below s (suc d) r)
  pair_listed = grind (arith, map-append, weave_cut, length-map, weave_items_below)

  swapped : SameNodes (l ∷ r ∷ F) (r ∷ l ∷ F)
  swapped = grind (arith, occurrences-cons)

  -- all of it in the left node
  module _ {t u : Heap T} (written : Writes s t l xs ks) (removed : Removes t u r)
      (few : length xs ≤ CAPACITY) where
    gone_apart : (k : ℕ) → 0 < occurrences k F → node_of u k ≡ node_of s k
    gone_apart k among = grind (arith, right_apart, content_apart, pair_content)

    pub united_holds : Holds s u d l xs ks
    united_holds = held_after written (removed.others l pair_apart) gone_apart

    pub united_agree : AgreeAt s u F
    united_agree = gone_apart

    pub united_rejoins : Rejoins s u d l x r None
    united_rejoins = record {
      listed = grind (arith, append-nil, held_items_below, united_holds, pair_listed);
      moved = Moves-like (used s (suc d) l ++ used s (suc d) r) (used u (suc d) l ++ [])
          (record { occur = λ k. sym (pair_nodes.occur k); len = sym pair_nodes.len })
          (grind (arith, append-nil, held_used united_holds))
          (Moves-then
          (Moves-like (r ∷ l ∷ F) (r ∷ l ∷ F) swapped swapped (Writes-moves (r ∷ F) written))
          (Removes-moves (l ∷ F) removed));
      shaped = All-cons (Shaped u (suc d)) l [] (Shaped-from_but u d l (held_shape united_holds
          MIN_LEN (omega (arith, length-append (node_items s l) (x ∷ node_items s r))) (omega arith)
          pair_content.branches pair_content.shaped)) (All-nil _);
    }

  -- the first half of it in the left node, the other in the right one
  module _ {t u : Heap T} (half : ℕ) (low : half < length xs)
      (first : Writes s t l (take half xs) (take (half + 1) ks))
      (second : Writes t u r (drop (half + 1) xs) (drop (half + 1) ks)) where
    pub shared_agree : AgreeAt s u F
    shared_agree k among = grind (arith, right_apart, content_apart, pair_content)

    pub shared_left : Holds s u d l (take half xs) (take (half + 1) ks)
    shared_left =
        held_after first (second.others l pair_apart)
        (part_agree s u d (half + 1) ks shared_agree).0

    pub shared_right : Holds s u d r (drop (half + 1) xs) (drop (half + 1) ks)
    shared_right = held_after second refl (part_agree s u d (half + 1) ks shared_agree).1

    pub shared_rejoins : (split : Split T) → split.right ≡ r
        → split.middle ≡ get_or xs half split.middle → MIN_LEN ≤ half → half ≤ CAPACITY
        → half + 1 + MIN_LEN ≤ length xs → length xs ≤ half + 1 + CAPACITY
        → Rejoins s u d l x r (Some split)
    shared_rejoins split same middle least_left most_left least_right most_right = rw same (record {
      listed = grind (arith, halves_listed, pair_content, shared_left, shared_right, pair_listed);
      moved = Moves-like (used s (suc d) l ++ used s (suc d) r)
          (used u (suc d) l ++ (used u (suc d) r ++ []))
          (record { occur = λ k. sym (pair_nodes.occur k); len = sym pair_nodes.len })
          (halves_nodes half pair_content low shared_left shared_right) (Moves-then
          (Moves-like (r ∷ l ∷ F) (r ∷ l ∷ F) swapped swapped (Writes-moves (r ∷ F) first))
          (Writes-moves (l ∷ F) second));
      shaped =
          let but = halves_shape half pair_content low shared_left shared_right least_left most_left
          least_right most_right MIN_LEN (omega arith) in
          grind (arith, Shaped-from_but);
    })

-- the seat of an edge among the items of both, from that in the left or in the right one
module _ {T : Type 0} (s : Heap T) (l : ℕ) (x : T) (r : ℕ) (g : Edge) where
  abbrev all_items : List T
  all_items = node_items s l ++ (x ∷ node_items s r)

  abbrev all_children : List ℕ
  all_children = node_children s l ++ node_children s r

  pub seat_from_left : (d : ℕ) → IsPair s d l r → IsEdge s d l g
      → IsSeat s d all_items all_children (seat_of d g) (inside g)
      × (seat_offset s d all_items all_children (seat_of d g) (inside g) ≡ offset s d l g)
  unfolding IsEdge offset IsSeat seat_offset
  seat_from_left zero pair is = grind (arith, length-append)
  seat_from_left (suc e) pair is =
      let run =
      seat_run s e [] (node_children s l) (node_children s r) []
      (node_items s l) (x ∷ node_items s r) 0 (turn g)
      (inside g) refl refl pair.left.node.branches is in
      grind arith

  pub seat_from_right : (d : ℕ) → IsPair s d l r → IsEdge s d r g
      → IsSeat s d all_items all_children (length (node_items s l) + 1 + seat_of d g) (inside g)
      × (seat_offset s d all_items all_children (length (node_items s l) + 1 + seat_of d g)
      (inside g) ≡ length (items_below s (suc d) l) + 1 + offset s d r g)
  unfolding IsEdge offset IsSeat seat_offset
  seat_from_right zero pair is = grind (arith, length-append, items_below_leaf)
  seat_from_right (suc e) pair is =
      let xs = node_items s l in
      let ys = node_items s r in
      let run =
      seat_run s e (node_children s l) (node_children s r) []
      (xs ++ x ∷ []) ys [] (length xs + 1) (turn g) (inside g) pair.left.node.branches
      (length-append xs (x ∷ [])) pair.right.node.branches is in
      let items : (xs ++ x ∷ []) ++ (ys ++ []) ≡ xs ++ (x ∷ ys) =
      ap (λ zs. (xs ++ x ∷ []) ++ zs) (append-nil ys) ∙ append_assoc xs (x ∷ []) ys in
      let run' = rw (items, append-nil (node_children s r)) at run in
      (run'.0, omega (arith, run'.1, items_below_size pair.left))
