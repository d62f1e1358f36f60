-- What becomes of a node when an item went below one of its children.
use Rattle.std.proofs.Common.{◌≡◌, ◌≢◌, ℕ, suc, ◌+◌, ◌-◌, ◌<◌, ◌≤◌, List, [], ◌∷◌, ◌++◌, length, take, drop, map, refl, arith, sym, ap, ◌∙◌, subst}
use Rattle.std.specs.List.{All, remove}
use Rattle.std.proofs.lemmas.List.{append-nil, length-map, length-take-le, take-map, drop-map, take-append-drop, nil_from_length}
use Rattle.std.proofs.lemmas.List.Edits.{remove-append_left, remove-append_right, length-remove}
use Rattle.std.proofs.lemmas.List.Elements.{All-append, All-cons, All-take, All-drop}
use Rattle.range_nodes.specs.Heap.{Heap, node_of, Writes, node_items, node_children, node_child}
use Rattle.range_nodes.specs.declared.nodes.TheConstants.{CAPACITY, MIN_LEN}
use Rattle.range_tree.specs.Nodes.{before, after, items_below, used, Shaped, ShapedBut, Owned, Moves, Shrinks, MayBeRebalanced, child_lists, before_child}
use Rattle.range_tree.specs.Weave.{list_splits_at}
use Rattle.range_tree.proofs.Weaving.{weave_splice}
use Rattle.range_tree.proofs.Below.{children_length, items_below_at, weave_items_below, used_is, items_below_leaf}
use Rattle.range_tree.proofs.Moves.{Moves-then, Writes-moves}
use Rattle.range_tree.proofs.Growing.{Runs, run_kept, run_moved, run_lists, same_before, same_after}

-- the item at a place within the middle of three parts goes
pub remove_middle : {X : Type 0} (f k r : List X) (rest : ℕ) → rest < length k
    → remove (f ++ (k ++ r)) (length f + rest) ≡ f ++ (remove k rest ++ r)
remove_middle f k r rest within =
    let offset : length f + rest - length f ≡ rest = omega arith in
    remove-append_right f (k ++ r) (length f) (length f + rest) refl (omega arith)
    ∙ ap (λ n. f ++ remove (k ++ r) n) offset
    ∙ ap (λ zs. f ++ zs) (remove-append_left k r rest within)

-- the subtree of the child at i has another list
pub record ListsAnew {T : Type 0} (s t : Heap T) (b n i : ℕ) (list : List T) : Type 0 where
  pub inner : b ≢ 0
  pub shaped : ShapedBut 1 CAPACITY s b n
  pub owned : Owned s (suc b) n
  pub low : i ≤ length (node_items s n)
  pub listed : items_below t b (node_child s n i) ≡ list
  pub moved : Moves s t (used s b (node_child s n i)) (used t b (node_child s n i))

module _ {T : Type 0} {s t : Heap T} {b n i : ℕ} {list : List T}
    (anew : ListsAnew s t b n i list) where
  abbrev xs : List T
  xs = node_items s n

  abbrev ks : List ℕ
  ks = node_children s n

  abbrev kid : ℕ
  kid = node_child s n i

  abbrev us : List ℕ
  us = take i (node_children s n)

  abbrev vs : List ℕ
  vs = drop (i + 1) (node_children s n)

  ks_parts : ks ≡ us ++ (kid ∷ vs)
  ks_parts = list_splits_at ks i 0 (omega (arith, children_length (omega arith) anew.shaped))

  kid_run : Runs s t b n us (kid ∷ []) vs (kid ∷ [])
  kid_run = grind (arith, ks_parts, append-nil)

  pub kid_kept : node_of t n ≡ node_of s n
  kid_kept = run_kept kid_run

  pub kid_moved : Moves s t (used s (suc b) n) (used t (suc b) n)
  kid_moved = grind (arith, used_is, kid_kept, ks_parts, run_moved kid_run)

  pub kid_owned_after : Owned t (suc b) n
  kid_owned_after k = omega (arith, kid_moved.owned k, anew.owned k)

  abbrev lists : List (List T)
  lists = child_lists s b n

  pub kid_listed : items_below t (suc b) n ≡ before xs lists i ++ (list ++ after xs lists i)
  kid_listed =
      let L = map (items_below s b) us in
      let R = map (items_below s b) vs in
      grind (
        arith,
        weave_splice (take i xs) [] (drop i xs) L (items_below t b kid) [] R
            (grind (arith, length-take-le, length-map)) refl,
        length-take-le,
        length-map,
        append-nil (items_below t b kid),
        take-map (items_below s b) i ks,
        drop-map (items_below s b) (i + 1) ks,
        weave_items_below t b n,
        kid_kept,
        take-append-drop i xs,
        run_lists kid_run,
        kid_run,
      )

  -- what stands before the child
  pub kid_front : length (before_child t b n i) ≡ length (before xs lists i)
  kid_front = grind (arith, same_before kid_run, kid_kept, take-map)

  pub kid_children : Shaped t b kid → All (Shaped t b) (node_children t n)
  kid_children shape =
      let before = (same_before kid_run).shaped_same (All-take (Shaped s b) i ks
      anew.shaped.children) in
      let behind = (same_after kid_run).shaped_same
      (All-drop (Shaped s b) (i + 1) ks anew.shaped.children) in
      rw kid_kept (subst (All (Shaped t b)) (sym ks_parts)
      (All-append (Shaped t b) us (kid ∷ vs) before
      (All-cons (Shaped t b) kid vs shape behind)))

  level : suc (b - 1) ≡ b
  level = omega arith

  pub kid_may_be_rebalanced : ShapedBut (MIN_LEN - 1) CAPACITY t (b - 1) kid
      → MayBeRebalanced t (b - 1) n i
  kid_may_be_rebalanced short =
      let before = (same_before kid_run).shaped_same (All-take (Shaped s b) i ks
      anew.shaped.children) in
      let behind = (same_after kid_run).shaped_same
      (All-drop (Shaped s b) (i + 1) ks anew.shaped.children) in
      grind (arith, level, kid_owned_after, kid_kept)

-- an item of a leaf goes
pub leaf_shrinks : {T : Type 0} {s t : Heap T} {n : ℕ} (q : ℕ) → ShapedBut 1 CAPACITY s 0 n
    → Owned s 1 n → q < length (node_items s n)
    → Writes s t n (remove (node_items s n) q) (node_children s n)
    → Shrinks s t 0 n (remove (items_below s 1 n) q)
leaf_shrinks q shaped owned within written =
    grind (arith, length-remove, nil_from_length, items_below_leaf, used_is, Writes-moves)

-- an item below a child went
pub lists_shorter : {T : Type 0} {s t : Heap T} {b n i : ℕ} {list : List T} → b ≢ 0
    → ShapedBut 1 CAPACITY s b n → Owned s (suc b) n → i ≤ length (node_items s n)
    → Shrinks s t (b - 1) (node_child s n i) list → ListsAnew s t b n i list
lists_shorter inner shaped owned low child = grind arith

-- and the child was rebalanced
pub shorter_child_shrinks_node : {T : Type 0} {s t u : Heap T} {b n i : ℕ} (q : ℕ)
    → ListsAnew s t b n i (remove (items_below s (suc (b - 1)) (node_child s n i)) q)
    → q < length (items_below s b (node_child s n i))
    → Shrinks t u (suc (b - 1)) n (items_below t (suc (suc (b - 1))) n)
    → Shrinks s u b n (remove (items_below s (suc b) n) (length (before_child s b n i) + q))
shorter_child_shrinks_node {T} {s} {t} {u} {b} {n} {i} q anew within rebalanced =
    let back : suc (b - 1) ≡ b = omega arith in
    grind (
      arith,
      kid_kept anew,
      kid_listed anew,
      remove_middle,
      items_below_at (omega arith) anew.shaped i anew.low,
      Moves-then (kid_moved anew) (rw back at rebalanced.moved),
    )
