-- How a node of new nodes grows at its end, item by item, and with each item by a child.
use Rattle.std.proofs.Common.{◌≡◌, ℕ, zero, suc, ◌+◌, ◌-◌, ◌*◌, ◌<◌, ◌≤◌, List, [], ◌∷◌, ◌++◌, length, map, sym, ap, ◌∙◌, subst, arith, length-append, append_assoc, Some}
use Rattle.std.specs.List.{All, flat_map, insert}
use Rattle.std.proofs.lemmas.List.{append-nil, length_push, length-map, map-append}
use Rattle.std.proofs.lemmas.List.Concat.{flat_map-append}
use Rattle.std.proofs.lemmas.List.Edits.{insert_end}
use Rattle.std.proofs.lemmas.List.Elements.{All-append, All-cons, All-nil}
use Rattle.range_nodes.specs.Heap.{Heap, node_of, node_count, items_of, child_count, FitsChild, HasNode, Stores, Writes, node_items, node_children}
use Rattle.range_nodes.specs.declared.nodes.TheConstants.{CAPACITY, MIN_LEN}
use Rattle.range_tree.specs.Nodes.{weave, items_below, used, Shaped, Moves, IsTree}
use Rattle.range_tree.specs.Building.{IsBuilt}
use Rattle.range_tree.specs.Contents.{IsContent}
use Rattle.range_tree.specs.Frame.{AgreeAt, AgreeAt-right, SameChildren, same_children}
use Rattle.range_nodes.proofs.Occurrences.{occurrences-append, occurrences-cons, occurrences-nil}
use Rattle.range_tree.specs.Weave.{weave_cut}
use Rattle.range_tree.proofs.Below.{Shaped-from_but, child_count_inner, items_below_leaf, used_is, used_leaf, weave_items_below}
use Rattle.range_tree.proofs.Contents.{Holds, held_items_below, held_used, held_shape, written_holds, held_new}
use Rattle.range_tree.proofs.Moves.{Moves-agree, Moves-then, Stores-moves, Writes-moves}
use Rattle.range_store.proofs.Moved.{moved_all}
use Rattle.range_tree.proofs.Rank.{used_none}
use Rattle.range_tree.proofs.Room.{used_le}

-- one item and one list more at the end
weave_more : {X : Type 0} (xs : List X) (x : X) (ls : List (List X)) (l : List X)
    → length ls ≡ length xs + 1 → weave (xs ++ x ∷ []) (ls ++ l ∷ []) ≡ weave xs ls ++ x ∷ l
weave_more xs x ls l many = grind (arith, weave_cut, append-nil)

-- what a node, of which the rest of the heap is old, becomes with an item and perhaps a child more
module _ {T : Type 0} {r s t : Heap T} {d n many : ℕ} (cs : List ℕ) (built : IsBuilt r s d n many)
    (moved : Moves s t [] (flat_map (used t d) cs)) where
  abbrev xs : List T
  xs = node_items s n

  abbrev ks : List ℕ
  ks = node_children s n

  agree : AgreeAt s t (used s (suc d) n)
  agree = Moves-agree (used s (suc d) n) (λ k. omega (arith, occurrences-nil)) moved

  pub built_kept : node_of t n ≡ node_of s n
  built_kept = grind (arith, agree)

  same : SameChildren s t d ks
  same =
      same_children s t d ks (AgreeAt-right s t (n ∷ []) (flat_map (used s d) ks)
      (subst (AgreeAt s t) (used_is s d n) agree))

  nodes_moved : Moves r t [] (n ∷ flat_map (used t d) (ks ++ cs))
  nodes_moved =
      grind (
        arith,
        occurrences-append,
        used_is,
        occurrences-cons,
        flat_map-append,
        same,
        length-append,
        Moves-then,
      )

  module _ {u : Heap T} (x : T) (room : many < CAPACITY) (shaped : All (Shaped t d) cs)
      (branches : length cs + length ks ≡ child_count d (many + 1))
      (written : Writes t u n (xs ++ x ∷ []) (ks ++ cs)) where
    longer : length (xs ++ x ∷ []) ≡ many + 1
    longer = length_push xs x ∙ ap (λ m. m + 1) built.items

    content : IsContent t d n (xs ++ x ∷ []) (ks ++ cs)
    content =
        record {
          present = rw built_kept built.shape.node.present;
          shaped = All-append (Shaped t d) ks cs (same.shaped_same built.shape.children) shaped;
          branches = rw longer (omega (arith, length-append ks cs, branches));
          owned = λ k. omega (arith, nodes_moved.owned k, occurrences-nil k);
        }

    holds : Holds t u d n (xs ++ x ∷ []) (ks ++ cs)
    holds = written_holds u content written

    pub built_more : IsBuilt r u d n (many + 1)
    built_more = record {
      shape = held_shape holds 0 (omega arith) (omega (arith, longer, room)) content.branches
          content.shaped;
      items = ap length written.items_are ∙ longer;
      moved = Moves-then nodes_moved (subst
          (λ zs. Moves t u (n ∷ flat_map (used t d) (ks ++ cs)) zs) (sym (held_used holds))
          (Writes-moves (flat_map (used t d) (ks ++ cs)) written));
    }

    pub listed_more : items_below u (suc d) n
        ≡ weave (xs ++ x ∷ []) (map (items_below s d) ks ++ map (items_below t d) cs)
    listed_more = grind (arith, held_items_below, holds, map-append, same)

-- a leaf of new items
pub built_leaf : {T : Type 0} {r s : Heap T} {n : ℕ} {xs : List T} → Stores r s n xs []
    → length xs ≤ CAPACITY → IsBuilt r s 0 n (length xs) × (items_below s (suc 0) n ≡ xs)
built_leaf {T} {r} {s} {n} {xs} stored fits =
    grind (arith, used_leaf, Stores-moves, items_below_leaf)

-- a node above its first child
module _ {T : Type 0} {r s t : Heap T} (d : ℕ) {n : ℕ} (c : ℕ) (inner : 0 < d)
    (moved : Moves r s [] (used s d c)) (shaped : Shaped s d c)
    (stored : Stores s t n [] (c ∷ [])) where
  alone : flat_map (used s d) (c ∷ []) ≡ used s d c
  alone = append-nil (used s d c)

  above_holds : Holds s t d n [] (c ∷ [])
  above_holds = held_new stored (λ k among. grind (arith, alone, occurrences-nil))

  pub begun_above : IsBuilt r t d n 0
  begun_above = record {
    shape = grind (arith, above_holds);
    items = ap length stored.items_are;
    moved = Moves-then moved (subst (λ zs. Moves s t (used s d c) zs)
        (sym (held_used above_holds ∙ ap (λ zs. n ∷ zs) alone)) (Stores-moves (used s d c) stored));
  }

  pub listed_above : items_below t (suc d) n ≡ items_below s d c
  listed_above = held_items_below above_holds ∙ append-nil (items_below s d c)

-- a node gets an item, and a child after it
module _ {T : Type 0} {r s t : Heap T} {d n : ℕ} (c : ℕ) {many : ℕ} (inner : 0 < d)
    (built : IsBuilt r s d n many) (moved : Moves s t [] (used t d c)) where
  one_moved : Moves s t [] (flat_map (used t d) (c ∷ []))
  one_moved = subst (Moves s t []) (sym (append-nil (used t d c))) moved

  branches : length (node_children s n) ≡ many + 1
  branches = grind arith

  pub node_kept : node_of t n ≡ node_of s n
  node_kept = built_kept (c ∷ []) built one_moved

  pub node_there : HasNode t n
  node_there = rw node_kept built.shape.node.present

  pub node_length : length (node_items t n) ≡ many
  node_length = ap (λ node. length (items_of node)) node_kept ∙ built.items

  pub node_fits : FitsChild (Some c) (node_items t n) (node_children t n)
  node_fits = grind (arith, node_kept)

  module _ {u : Heap T} (x : T) (room : many < CAPACITY) (shaped : Shaped t d c) (put : Writes t u n
      (insert (node_items t n) many x) (insert (node_children t n) (many + 1) c))
    where
      child_written : Writes t u n (node_items s n ++ x ∷ []) (node_children s n ++ c ∷ [])
      child_written = grind (arith, node_kept, insert_end)

      below_one : All (Shaped t d) (c ∷ [])
      below_one = All-cons (Shaped t d) c [] shaped (All-nil (Shaped t d))

      both : length (c ∷ []) + length (node_children s n) ≡ child_count d (many + 1)
      both = omega (arith, branches, child_count_inner d (many + 1) inner)

      pub child_more : IsBuilt r u d n (many + 1)
      child_more = built_more (c ∷ []) built one_moved x room below_one both child_written

      pub child_listed : items_below u (suc d) n ≡ items_below s (suc d) n ++ x ∷ items_below t d c
      child_listed =
          let xs = node_items s n in
          let ks = node_children s n in
          listed_more (c ∷ []) built one_moved x room below_one both child_written
          ∙ weave_more xs x (map (items_below s d) ks) (items_below t d c)
          (omega (arith, length-map ks (items_below s d), branches, built.items))
          ∙ ap (λ zs. zs ++ x ∷ items_below t d c) (sym (weave_items_below s d n))

-- a child below a node, with so many items, was built of new nodes
module _ {T : Type 0} where
  pub record IsChild (old new : Heap T) (d n count : ℕ) : Type 0 where
    pub moved : Moves old new [] (used new d n)
    pub shaped : Shaped new d n
    pub size : length (items_below new d n) ≡ count
    pub few : MIN_LEN * node_count new ≤ MIN_LEN * node_count old + count

pub built_child : {T : Type 0} {r s : Heap T} (d : ℕ) {n many count : ℕ} → 0 < d
    → IsBuilt r s (d - 1) n many → MIN_LEN ≤ many → length (items_below s (suc (d - 1)) n) ≡ count
    → IsChild r s d n count
built_child {T} {r} {s} zero {n} {many} {count} some built enough size = absurd (omega arith)
built_child {T} {r} {s} (suc d) {n} {many} {count} some built' enough size' =
    grind (arith, Shaped-from_but, used_le)

pub child_level : {T : Type 0} (s : Heap T) (d n : ℕ) → 0 < d
    → items_below s (suc (d - 1)) n ≡ items_below s d n
child_level s d n some = grind arith

-- what was taken of a list that is moved, with an item and some more
pub taken_more : {X : Type 0} (all front rest later end now middle : List X) (x : X)
    → all ≡ front ++ rest → rest ≡ x ∷ later → later ≡ middle ++ end
    → now ≡ front ++ x ∷ middle → all ≡ now ++ end
taken_more all front rest later end now middle x whole next below longer =
    grind (arith, append_assoc)

-- a tree that was built where there was none
pub built_tree : {T : Type 0} {r s : Heap T} (levels : ℕ) {root d n many : ℕ} → levels ≡ 0
    → IsTree r levels root → IsBuilt r s d n many → 0 < many → IsTree s (d + 1) n
built_tree levels none tree built some = grind (arith, used_none)

-- all that was to be moved was
pub all_taken : {X : Type 0} (all done rest : List X) → all ≡ done ++ rest
    → length done ≡ length all → done ≡ all
all_taken all done rest parted same = grind (arith, moved_all, length-append)
