-- A node after two of its children were levelled.
use Rattle.std.proofs.Common.{◌≡◌, ℕ, suc, ◌+◌, ◌<◌, List, [], ◌∷◌, ◌++◌, length, get_or, take, drop, map, refl, ◌∙◌, arith, Option, Some, None, sym, ap, subst}
use Rattle.std.specs.List.{flat_map}
use Rattle.std.proofs.lemmas.List.{append-nil, append_assoc, length-append, length-map, length-take-le, length-drop, take_more, take-map, drop_more}
use Rattle.range_nodes.specs.Heap.{Heap, Writes, node_items, node_children, node_child}
use Rattle.range_nodes.specs.declared.nodes.Split.{Split}
use Rattle.range_tree.specs.declared.btree.path.Edge.{Edge}
use Rattle.range_tree.specs.Nodes.{weave, rest_of, front_of, before, items_below, used, tops, separators, Shrinks, IsLevelled, Moves}
use Rattle.range_tree.specs.Edges.{turn, inside, IsEdge, offset, IsSeat, seat_offset}
use Rattle.range_tree.specs.Contents.{IsContent}
use Rattle.range_nodes.proofs.Occurrences.{occurrences-append, occurrences-cons}
use Rattle.range_tree.specs.Weave.{list_splits_at, length-before}
use Rattle.range_tree.proofs.Weaving.{weave_splice}
use Rattle.range_tree.proofs.Below.{weave_items_below}
use Rattle.range_tree.proofs.Moves.{Moves-then, Writes-moves}
use Rattle.range_tree.proofs.Contents.{IsPair, Rejoins, held_items_below, held_used, written_holds, written_agree}
use Rattle.range_tree.proofs.Growing.{Runs, tops_many, weave_tops, run_moved, run_content, run_lists, same_before, used_old}
use Rattle.range_tree.proofs.Seats.{seat_run, seat_written}

-- the parts round the two children at j and after it
pub pair_parts : (ks : List ℕ) (j : ℕ) → j + 1 < length ks
    → ks ≡ take j ks ++ (get_or ks j 0 ∷ get_or ks (j + 1) 0 ∷ drop (j + 2) ks)
pair_parts ks j low = grind (arith, list_splits_at, drop_more)

module _ {T : Type 0} {s : Heap T} {low n j : ℕ} (x : T) (levelled : IsLevelled s low n j)
    (here : x ≡ get_or (node_items s n) j x) where
  abbrev xs : List T
  xs = node_items s n

  abbrev ks : List ℕ
  ks = node_children s n

  abbrev l : ℕ
  l = node_child s n j

  abbrev r : ℕ
  r = node_child s n (j + 1)

  abbrev us : List ℕ
  us = take j (node_children s n)

  abbrev vs : List ℕ
  vs = drop (j + 2) (node_children s n)

  many : length ks ≡ length xs + 1
  many = levelled.node.branches

  ks_parts : ks ≡ us ++ (l ∷ r ∷ vs)
  ks_parts = pair_parts ks j (omega (arith, many, levelled.within))

  xs_parts : xs ≡ take j xs ++ (x ∷ drop (j + 1) xs)
  xs_parts = grind (arith, list_splits_at)

  us_many : length us ≡ j
  us_many = length-take-le j ks (omega (arith, many, levelled.within))

  front_many : length (take j xs) ≡ j
  front_many = length-take-le j xs (omega (arith, levelled.within))

  same_run : Runs s s (suc low) n us (l ∷ r ∷ []) vs (l ∷ r ∷ [])
  same_run = grind (arith, ks_parts)

  pub pair_of : IsPair s low l r
  pair_of = grind (arith, used_old same_run, same_run, occurrences-cons, occurrences-append)

  module _ {t : Heap T} {split : Option (Split T)} (rejoins : Rejoins s t low l x r split) where
    pair_run : Runs s t (suc low) n us (l ∷ r ∷ []) vs (tops l split)
    pair_run = grind (arith, ks_parts, append-nil)

    abbrev new_xs : List T
    new_xs = take j (node_items s n) ++ (separators split ++ drop (j + 1) (node_items s n))

    abbrev new_ks : List ℕ
    new_ks =
        take j (node_children s n) ++ (tops (node_child s n j) split
        ++ drop (j + 2) (node_children s n))

    pub new_length : length new_xs + 1 ≡ length xs + length (separators split)
    new_length =
        grind (arith, length-append, front_many, length-drop)

    new_content : IsContent t (suc low) n new_xs new_ks
    new_content = grind (
      arith,
      run_content pair_run new_xs
          (grind (arith, new_length, length-append, us_many, length-drop)) levelled.before
          rejoins.shaped levelled.behind,
    )

    woven_old : items_below s (suc (suc low)) n
        ≡ front_of (take j xs) (map (items_below s (suc low)) us)
        ++ ((items_below s (suc low) l ++ (x ∷ items_below s (suc low) r))
        ++ rest_of (drop (j + 1) xs) (map (items_below s (suc low)) vs))
    woven_old =
        weave_items_below s (suc low) n
        ∙ ap (λ zs. weave zs (map (items_below s (suc low)) ks)) xs_parts
        ∙ ap (λ zs. weave (take j xs ++ (x ∷ drop (j + 1) xs)) (map (items_below s (suc low)) zs))
        ks_parts
        ∙ ap (weave (take j xs ++ (x ∷ drop (j + 1) xs))) (run_lists same_run)
        ∙ weave_splice (take j xs) (x ∷ []) (drop (j + 1) xs) (map (items_below s (suc low)) us)
        (items_below s (suc low) l) (items_below s (suc low) r ∷ [])
        (map (items_below s (suc low)) vs)
        (omega (arith, front_many, us_many, length-map us (items_below s (suc low)))) refl
        ∙ ap (λ zs. front_of (take j xs) (map (items_below s (suc low)) us)
        ++ ((items_below s (suc low) l ++ (x ∷ zs))
        ++ rest_of (drop (j + 1) xs) (map (items_below s (suc low)) vs)))
        (append-nil (items_below s (suc low) r))

    new_listed : weave new_xs (map (items_below t (suc low)) new_ks)
        ≡ items_below s (suc (suc low)) n
    new_listed = ap (weave new_xs) (run_lists pair_run)
        ∙ weave_tops (take j xs) (drop (j + 1) xs) (map (items_below s (suc low)) us)
        (map (items_below s (suc low)) vs) (items_below t (suc low)) l split
        (omega (arith, front_many, us_many, length-map us (items_below s (suc low))))
        ∙ rw rejoins.listed refl ∙ sym woven_old

    -- what is written to the node
    pub pair_children : (cut : Option (Split T))
        → take (j + 1) ks ++ (drop 1 (tops l cut) ++ vs) ≡ us ++ (tops l cut ++ vs)
    pair_children None = grind (arith, take_more, many, append_assoc us (l ∷ []) vs)
    pair_children (Some cut) =
        grind (arith, take_more, many, append_assoc us (l ∷ []) (cut.right ∷ vs))

    module _ {u : Heap T} (written : Writes t u n new_xs new_ks) where
      pub levelled_shrinks : Shrinks s u (suc low) n (items_below s (suc (suc low)) n)
      levelled_shrinks =
          let holds = written_holds u new_content written in
          record {
            listed = held_items_below holds ∙ new_listed;
            moved = subst (λ zs. Moves s u (used s (suc (suc low)) n) zs) (sym (held_used holds))
                (Moves-then (run_moved pair_run)
                (Writes-moves (flat_map (used t (suc low)) new_ks) written));
            shape = grind (arith, new_length, new_content);
          }

      pub levelled_edge : (side : ℕ) (g h : Edge) → turn h ≡ j + side → inside h ≡ g
          → IsSeat t (suc low) (separators split) (tops l split) side g
          → IsEdge u (suc low) n h
          × (offset u (suc low) n h
          ≡ length (before xs (map (items_below s (suc low)) ks) j) + seat_offset t (suc low)
          (separators split) (tops l split) side g)
      levelled_edge side g h at into seat =
          let run =
          seat_run t low us (tops l split) vs (take j xs) (separators split)
          (drop (j + 1) xs) j side g us_many front_many (tops_many l split) seat in
          let holds = written_holds u new_content written in
          let agree = written_agree u new_content written in
          let edge =
          seat_written t u n new_xs new_ks (j + side) g h (suc low) holds agree
          (λ none. absurd (omega (arith, none))) (λ some. at) (λ some. into) run.0 in
          let front =
          length-before xs (map (items_below s (suc low)) ks) j
          (omega (arith, levelled.within))
          (omega (arith, many, levelled.within, length-map ks (items_below s (suc low)))) in
          grind (arith, same_before pair_run, take-map (items_below s (suc low)) j ks)
