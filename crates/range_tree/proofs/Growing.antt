-- What becomes of a node when the subtree of one of its children became one or two.
use Rattle.std.proofs.Common.{◌≡◌, ◌≢◌, ℕ, suc, ◌+◌, ◌-◌, ◌<◌, ◌≤◌, List, [], ◌∷◌, ◌++◌, length, get_or, take, drop, map, refl, ap, arith, Option, Some, None, IsSome, sym, ◌∙◌}
use Rattle.std.specs.List.{All, flat_map, insert, sum_by}
use Rattle.std.proofs.lemmas.List.{append-nil, append_assoc, length-append, length-map, map-append, length-take-le, length-drop, take-append-drop, take_more, take-map, drop-map}
use Rattle.std.proofs.lemmas.List.Concat.{flat_map-append}
use Rattle.std.proofs.lemmas.List.Elements.{All-append, All-take, All-drop}
use Rattle.std.proofs.lemmas.List.Edits.{length-insert}
use Rattle.range_nodes.specs.Heap.{Heap, node_of, HasRoomFor, child_count, Writes, node_items, node_children, node_child}
use Rattle.range_nodes.specs.declared.nodes.Split.{Split}
use Rattle.range_nodes.specs.declared.nodes.TheConstants.{CAPACITY}
use Rattle.range_tree.specs.Nodes.{weave, rest_of, front_of, before, after, items_below, used, Shaped, ShapedBut, Owned, Moves, tops, separators, Replaces, HasTreeRoom, child_lists, before_child}
use Rattle.range_tree.specs.Contents.{IsContent, Settles}
use Rattle.range_nodes.specs.Occurrences.{occurrences}
use Rattle.range_nodes.proofs.Occurrences.{occurrences-append, occurrences-cons, occurrences_itself}
use Rattle.range_tree.specs.Weave.{list_splits_at, length-weave, length-before}
use Rattle.range_tree.proofs.Weaving.{weave_splice, insert_middle}
use Rattle.range_tree.specs.Frame.{AgreeAt, AgreeAt-left, AgreeAt-right, SameChildren, same_children}
use Rattle.range_tree.proofs.Below.{children_length, items_below_at, used_is, Shaped-from_but, Shaped-but}
use Rattle.range_tree.proofs.Moves.{Moves-like, Moves-beside, Moves-agree}
use Rattle.range_tree.proofs.Paths.{below_inside, below_most, below_turn}
use Rattle.range_tree.proofs.Room.{children_le}
use Rattle.range_tree.proofs.Seats.{seat_run, seat_side, seat_written}
use Rattle.range_tree.proofs.Contents.{written_settles, written_holds, written_agree}
use Rattle.range_tree.specs.declared.btree.path.Edge.{Edge}
use Rattle.range_tree.specs.Edges.{turn, inside, IsEdge, offset, IsSeat, seat_offset}

module _ {T : Type 0} where
  -- the run ms of the children of n, before vs and after us, became ts
  pub record Runs (s t : Heap T) (b n : ℕ) (us ms vs ts : List ℕ) : Type 0 where
    pub present : IsSome (node_of s n)
    pub owned : Owned s (suc b) n
    pub children : node_children s n ≡ us ++ (ms ++ vs)
    pub moved : Moves s t (flat_map (used s b) ms) (flat_map (used t b) ts)

module _ {T : Type 0} {s t : Heap T} {b n : ℕ} {us ms vs ts : List ℕ}
    (run : Runs s t b n us ms vs ts) where
  abbrev rest : List ℕ
  rest = n ∷ (flat_map (used s b) us ++ flat_map (used s b) vs)

  pub used_old : used s (suc b) n
      ≡ n ∷ (flat_map (used s b) us ++ (flat_map (used s b) ms ++ flat_map (used s b) vs))
  used_old = grind (arith, used_is, flat_map-append)

  occur_old : (k : ℕ)
      → occurrences k (used s (suc b) n)
      ≡ occurrences k (flat_map (used s b) ms) + occurrences k rest
  occur_old k = omega (arith, ap (occurrences k) used_old, occurrences-cons, occurrences-append)

  agree : AgreeAt s t rest
  agree = Moves-agree rest (λ k. omega (arith, occur_old k, run.owned k)) run.moved

  pub run_kept : node_of t n ≡ node_of s n
  run_kept = grind (arith, agree, occurrences-cons, occurrences_itself)

  agree_sides : AgreeAt s t (flat_map (used s b) us ++ flat_map (used s b) vs)
  agree_sides = AgreeAt-right s t (n ∷ []) (flat_map (used s b) us ++ flat_map (used s b) vs) agree

  pub same_before : SameChildren s t b us
  same_before =
      same_children s t b us (AgreeAt-left s t (flat_map (used s b) us)
      (flat_map (used s b) vs) agree_sides)

  pub same_after : SameChildren s t b vs
  same_after =
      same_children s t b vs (AgreeAt-right s t (flat_map (used s b) us)
      (flat_map (used s b) vs) agree_sides)

  used_new : flat_map (used t b) (us ++ (ts ++ vs)) ≡ flat_map (used s b) us
      ++ (flat_map (used t b) ts ++ flat_map (used s b) vs)
  used_new =
      grind (arith, flat_map-append, same_before, same_after)

  pub run_moved : Moves s t (used s (suc b) n) (n ∷ flat_map (used t b) (us ++ (ts ++ vs)))
  run_moved = Moves-like (used s (suc b) n) (n ∷ flat_map (used t b) (us ++ (ts ++ vs)))
      (grind (arith, occur_old, occurrences-append, used_old, length-append))
      (record {
        occur =
            λ k.
            omega (arith, ap (occurrences k) used_new, occurrences-cons, occurrences-append);
        len = grind (arith, ap length used_new, length-append);
      }) (Moves-beside rest run.moved)

  pub run_content : (xs : List T) → length (us ++ (ts ++ vs)) ≡ child_count b (length xs)
      → All (Shaped s b) us → All (Shaped t b) ts → All (Shaped s b) vs
      → IsContent t b n xs (us ++ (ts ++ vs))
  run_content xs branches left middle right = record {
    present = rw run_kept run.present;
    shaped =
        All-append (Shaped t b) us (ts ++ vs) (same_before.shaped_same left)
        (All-append (Shaped t b) ts vs middle (same_after.shaped_same right));
    branches = branches;
    owned = λ k. omega (arith, run_moved.owned k, run.owned k);
  }

  pub run_lists : map (items_below t b) (us ++ (ts ++ vs)) ≡ map (items_below s b) us
      ++ (map (items_below t b) ts ++ map (items_below s b) vs)
  run_lists =
      grind (arith, map-append, same_before, same_after)

-- a written node in the place of what became of the old one
pub settled_replaces : {T : Type 0} {s t u : Heap T} {b n : ℕ} {xs : List T} {ks : List ℕ}
    (list : List T) {split : Option (Split T)}
    → Moves s t (used s (suc b) n) (n ∷ flat_map (used t b) ks)
    → weave xs (map (items_below t b) ks) ≡ list → length (node_items s n) ≤ length xs
    → Settles t u b n xs ks split → Replaces s u b n split list
settled_replaces list {split} moved listed more settles = grind arith

-- with all capacity that the item needs there is some for a cut
pub content_room : {T : Type 0} {s t : Heap T} {b n : ℕ} {xs : List T} {ks : List ℕ}
    → Moves s t (used s (suc b) n) (n ∷ flat_map (used t b) ks) → IsContent t b n xs ks
    → length (weave xs (map (items_below t b) ks)) ≡ length (items_below s (suc b) n) + 1
    → HasTreeRoom s (suc b) n 1 → CAPACITY < length xs → HasRoomFor t 1
content_room moved content longer room over = grind (arith, length-weave, length-map, children_le)

-- what stands in the place of a node
pub tops_many : {T : Type 0} (k : ℕ) (cut : Option (Split T))
    → length (tops k cut) ≡ length (separators cut) + 1
tops_many k cut = grind arith

pub weave_tops : {T : Type 0} (fore back : List T) (L R : List (List T)) (f : ℕ → List T) (k : ℕ)
    (cut : Option (Split T)) → length fore ≡ length L
    → weave (fore ++ (separators cut ++ back)) (L ++ (map f (tops k cut) ++ R))
    ≡ front_of fore L ++ (weave (separators cut) (map f (tops k cut)) ++ rest_of back R)
weave_tops fore back L R f k None same = weave_splice fore [] back L (f k) [] R same refl
weave_tops fore back L R f k (Some cut) same =
    weave_splice fore (cut.middle ∷ []) back L (f k) (f cut.right ∷ []) R same refl

-- the child at i became one or two, with one more item, before that at `rest` of its own
pub record Grows {T : Type 0} (s t : Heap T) (b n i rest : ℕ) (item : T)
    (split : Option (Split T)) : Type 0 where
  pub inner : b ≢ 0
  pub shaped : ShapedBut 1 CAPACITY s b n
  pub owned : Owned s (suc b) n
  pub low : i ≤ length (node_items s n)
  pub within : rest ≤ length (items_below s b (node_child s n i))
  pub child : Replaces s t (b - 1) (node_child s n i) split
      (insert (items_below s (suc (b - 1)) (node_child s n i)) rest item)

pub grows_below : {T : Type 0} {s t : Heap T} {b n : ℕ} {item : T} {split : Option (Split T)} → b ≢
    0
    → ShapedBut 1 CAPACITY s b n → Owned s (suc b) n → (g : Edge) → IsEdge s b n g
    → Replaces s t (b - 1) (node_child s n (turn g)) split
    (insert (items_below s (suc (b - 1)) (node_child s n (turn g)))
    (offset s (b - 1) (node_child s n (turn g)) (inside g)) item)
    → Grows s t b n (turn g) (offset s (b - 1) (node_child s n (turn g)) (inside g)) item split
grows_below inner shaped owned g is child = grind (arith, below_turn, below_most, below_inside)

module _ {T : Type 0} {s t : Heap T} {b n i rest : ℕ} {item : T} {split : Option (Split T)}
    (grows : Grows s t b n i rest item split) where
  abbrev xs : List T
  xs = node_items s n

  abbrev ks : List ℕ
  ks = node_children s n

  abbrev kid : ℕ
  kid = node_child s n i

  abbrev us : List ℕ
  us = take i (node_children s n)

  abbrev vs : List ℕ
  vs = drop (i + 1) (node_children s n)

  abbrev new_xs : List T
  new_xs = take i (node_items s n) ++ (separators split ++ drop i (node_items s n))

  abbrev new_ks : List ℕ
  new_ks =
      take i (node_children s n) ++ (tops (node_child s n i) split
      ++ drop (i + 1) (node_children s n))

  level : suc (b - 1) ≡ b
  level = omega arith

  many : length ks ≡ length xs + 1
  many = children_length (omega arith) grows.shaped

  grown_run : Runs s t b n us (kid ∷ []) vs (tops kid split)
  grown_run = grind (arith, list_splits_at ks i 0 (omega (arith, many)), append-nil)

  pub grown_kept : node_of t n ≡ node_of s n
  grown_kept = run_kept grown_run

  pub grown_moved : Moves s t (used s (suc b) n) (n ∷ flat_map (used t b) new_ks)
  grown_moved = run_moved grown_run

  us_many : length us ≡ i
  us_many = length-take-le i ks (omega (arith, many))

  pub grown_content : IsContent t b n new_xs new_ks
  grown_content = grind (
    arith,
    run_content grown_run new_xs
        (grind (arith, length-append, us_many, length-take-le i xs grows.low, length-drop))
        (All-take (Shaped s b) i ks grows.shaped.children)
        (grind (arith, Shaped-from_but, Shaped-but s (b - 1) kid (grind arith)))
        (All-drop (Shaped s b) (i + 1) ks grows.shaped.children),
  )

  abbrev lists : List (List T)
  lists = child_lists s b n

  pub grown_listed : weave new_xs (map (items_below t b) new_ks)
      ≡ insert (items_below s (suc b) n) (length (before xs lists i) + rest) item
  grown_listed =
      let inserted : weave (separators split) (map (items_below t b) (tops kid split))
      ≡ insert (items_below s b kid) rest item = rw level at grows.child.listed in
      let whole = items_below_at (omega arith) grows.shaped i grows.low in
      ap (weave new_xs) (run_lists grown_run)
      ∙ weave_tops (take i xs) (drop i xs) (map (items_below s b) us) (map (items_below s b) vs)
      (items_below t b) kid split
      (omega (arith, length-take-le i xs grows.low, us_many, length-map us (items_below s b)))
      ∙ rw (inserted, ← take-map (items_below s b) i ks, ← drop-map (items_below s b) (i + 1) ks)
      refl
      ∙ sym (insert_middle (before xs lists i) (items_below s b kid)
      (after xs lists i) rest item grows.within)
      ∙ ap (λ zs. insert zs (length (before xs lists i) + rest) item) (sym whole)

  pub grown_longer : length (weave new_xs (map (items_below t b) new_ks))
      ≡ length (items_below s (suc b) n) + 1
  grown_longer =
      let whole = items_below_at (omega arith) grows.shaped i grows.low in
      grind (arith, length-append, grown_listed, length-insert)

  pub grown_seat : (side : ℕ) (g : Edge)
      → IsSeat t (suc (b - 1)) (separators split) (tops kid split) side g
      → IsSeat t b new_xs new_ks (i + side) g
      × (seat_offset t b new_xs new_ks (i + side) g
      ≡ length (before xs lists i) + seat_offset t (suc (b - 1)) (separators split)
      (tops kid split) side g)
  grown_seat side g seat =
      let all =
      seat_run t (b - 1) us (tops kid split) vs (take i xs) (separators split)
      (drop i xs) i side g us_many (length-take-le i xs grows.low) (tops_many kid split) seat in
      let here = ap (λ m. seat_offset t m new_xs new_ks (i + side) g) level in
      let sums = ap (λ m. sum_by length (map (items_below t m) us)) level in
      let front =
      length-before xs lists i grows.low (omega (arith, many, length-map ks (items_below s b))) in
      grind (arith, same_before grown_run, take-map (items_below s b) i ks, level, here)

-- the children with the new one
pub with_right : (ks : List ℕ) (i right : ℕ) → i < length ks
    → insert ks (i + 1) right ≡ take i ks ++ (get_or ks i 0 ∷ right ∷ drop (i + 1) ks)
with_right ks i right low = grind (arith, take_more ks i 0 low, append_assoc)

pub kid_owned : {T : Type 0} (s : Heap T) (b n i : ℕ) → Owned s (suc b) n
    → i < length (node_children s n) → Owned s b (node_child s n i)
kid_owned s b n i owned low k =
    let ks = node_children s n in
    let kid = get_or ks i 0 in
    grind (
      arith,
      list_splits_at ks i 0 low,
      flat_map-append (used s b) (take i ks) (kid ∷ drop (i + 1) ks),
      used_is s b n,
      occurrences-cons,
      occurrences-append,
    )

-- a child that was not cut leaves the node as it is
module _ {T : Type 0} {s t : Heap T} {b n i rest : ℕ} {item : T}
    (grows : Grows s t b n i rest item None) where
  abbrev xs' : List T
  xs' = take i (node_items s n) ++ drop i (node_items s n)

  abbrev ks' : List ℕ
  ks' = take i (node_children s n) ++ (node_child s n i ∷ drop (i + 1) (node_children s n))

  content : IsContent t b n xs' ks'
  content = grown_content grows

  written : Writes t t n xs' ks'
  written = grind (arith, grown_kept grows, take-append-drop, list_splits_at, children_length)

  same_length : length xs' ≡ length (node_items s n)
  same_length = ap length (take-append-drop i (node_items s n))

  pub none_replaces : Replaces s t b n None
      (insert (items_below s (suc b) n) (length (before_child s b n i) + rest) item)
  none_replaces = settled_replaces _ (grown_moved grows)
      (grown_listed grows) (omega (arith, same_length))
      (written_settles t content written (omega (arith, same_length, grows.shaped.node.fits)))

  pub none_edge : (side : ℕ) (g h : Edge) → turn h ≡ i → inside h ≡ g
      → IsSeat t (suc (b - 1)) (separators {T = T} None)
      (tops {T = T} (node_child s n i) None) side g → IsEdge t b n h × (offset t b n h ≡ length
      (before_child s b n i) + seat_offset t (suc (b - 1)) (separators {T = T} None)
      (tops {T = T} (node_child s n i) None) side g)
  none_edge side g h at into seat =
      let up = grown_seat grows side g seat in
      let one =
      seat_side t (b - 1) (separators {T = T} None)
      (tops {T = T} (node_child s n i) None) side g seat in
      let holds = written_holds t content written in
      let agree = written_agree t content written in
      let edge =
      seat_written t t n xs' ks' (i + side) g h b holds agree (λ none. absurd (grows.inner none))
      (λ some. omega (arith, at, one)) (λ some. into) up.0 in
      (edge.0, edge.1 ∙ up.1)

-- a node that may be cut has the item between the halves of its child, and the second of them
module _ {T : Type 0} {s t : Heap T} {b n i rest : ℕ} {item : T} {split : Split T}
    (grows : Grows s t b n i rest item (Some split)) where
  pub some_items : take i (node_items s n) ++ (split.middle ∷ drop i (node_items s n))
      ≡ insert (node_items t n) i split.middle
  some_items = grind (arith, grown_kept grows)

  pub some_children : take i (node_children s n) ++ (node_child s n i ∷ split.right ∷ drop (i + 1)
      (node_children s n)) ≡ insert (node_children t n) (i + 1) split.right
  some_children =
      grind (arith, with_right (node_children s n) i split.right (grind arith), grown_kept grows)
