-- A tree in which another item stands in the place of one.
use Rattle.std.specs.Prelude.{◌≡◌, ◌≢◌, ℕ, zero, suc, ◌+◌, ◌-◌, ◌<◌, ◌≤◌, ◌==◌, Bool, true, false, List, [], ◌∷◌, ◌++◌, length, map, take, drop, IsSome, is_some, cond, refl}
use Rattle.std.specs.List.{flat_map}
use Rattle.std.proofs.Common.{get_or, sym, ap, ◌∙◌, inl, inr, arith}
use Rattle.std.proofs.Math.ListN.{set}
use Rattle.std.proofs.lemmas.List.{length-append, length-map, length-take-le, length-drop, take-append-drop, take-map, drop-map, nil_from_length, get_or-map}
use Rattle.std.proofs.lemmas.Bool.{cases_eq, eq-eqb, eqb-true, and_parts, and_from, both_ways}
use Rattle.std.proofs.lemmas.List.Concat.{flat_map-append}
use mathlib.Core.Path.{fun_ext}
use Rattle.range_store.proofs.Edits.{set_parts}
use Rattle.range_nodes.specs.Heap.{Heap, node_of, node_count, Writes, node_items, node_children, node_child}
use Rattle.range_nodes.specs.Occurrences.{occurrences}
use Rattle.range_nodes.proofs.Occurrences.{occurrences-append, occurrences-cons, occurrences_itself, occurrences_here}
use Rattle.range_tree.specs.declared.btree.path.Edge.{Edge}
use Rattle.range_tree.specs.declared.btree.path.Home.{Home}
use Rattle.range_nodes.specs.declared.nodes.TheConstants.{CAPACITY, MIN_LEN}
use Rattle.range_tree.specs.Nodes.{weave, rest_of, before, after, items_below, used, IsNode, Shaped, ShapedBut, IsRoot, IsTree, here, child_lists}
use Rattle.range_tree.specs.Edges.{turn, inside, is_start, IsEdge, offset, home_of}
use Rattle.range_tree.specs.Frame.{AgreeAt, same_children, used_kid, used_kid_le}
use Rattle.range_tree.specs.Weave.{weave_at, weave_cut, length-weave, length-before, list_splits_at, regroup}

module _ {X : Type 0} where
  rest_length : (xs ys : List X) (ks ls : List (List X)) → length xs ≡ length ys
      → map length ks ≡ map length ls → length (rest_of xs ks) ≡ length (rest_of ys ls)
  rest_length xs ys [] [] items lists = items
  rest_length xs ys [] (l ∷ ls) items lists = absurd (cc)
  rest_length xs ys (k ∷ ks) [] items lists = absurd (cc)
  rest_length [] [] (k ∷ ks) (l ∷ ls) items lists = refl
  rest_length [] (y ∷ ys) (k ∷ ks) (l ∷ ls) items lists = absurd (omega arith)
  rest_length (x ∷ xs) [] (k ∷ ks) (l ∷ ls) items lists = absurd (omega arith)
  rest_length (x ∷ xs) (y ∷ ys) (k ∷ ks) (l ∷ ls) items lists =
      let head : length k ≡ length l = cc in
      let tail : map length ks ≡ map length ls = cc in
      omega (
        arith,
        head,
        length-append k (rest_of xs ks),
        length-append l (rest_of ys ls),
        rest_length xs ys ks ls (omega arith) tail,
      )

  weave_length : (xs ys : List X) (ks ls : List (List X)) → length xs ≡ length ys
      → map length ks ≡ map length ls → length (weave xs ks) ≡ length (weave ys ls)
  weave_length xs ys [] [] items lists = items
  weave_length xs ys [] (l ∷ ls) items lists = absurd (cc)
  weave_length xs ys (k ∷ ks) [] items lists = absurd (cc)
  weave_length xs ys (k ∷ ks) (l ∷ ls) items lists =
      let head : length k ≡ length l = cc in
      let tail : map length ks ≡ map length ls = cc in
      omega (
        arith,
        head,
        length-append k (rest_of xs ks),
        length-append l (rest_of ys ls),
        rest_length xs ys ks ls items tail,
      )

  before_length : (i : ℕ) (xs ys : List X) (ks ls : List (List X)) → length xs ≡ length ys
      → map length ks ≡ map length ls → length (before xs ks i) ≡ length (before ys ls i)
  before_length zero xs ys ks ls items lists = refl
  before_length (suc i) [] [] ks ls items lists = refl
  before_length (suc i) [] (y ∷ ys) ks ls items lists = absurd (omega arith)
  before_length (suc i) (x ∷ xs) [] ks ls items lists = absurd (omega arith)
  before_length (suc i) (x ∷ xs) (y ∷ ys) [] [] items lists = refl
  before_length (suc i) (x ∷ xs) (y ∷ ys) [] (l ∷ ls) items lists = absurd (cc)
  before_length (suc i) (x ∷ xs) (y ∷ ys) (k ∷ ks) [] items lists = absurd (cc)
  before_length (suc i) (x ∷ xs) (y ∷ ys) (k ∷ ks) (l ∷ ls) items lists =
      let head : length k ≡ length l = cc in
      let tail : map length ks ≡ map length ls = cc in
      omega (
        arith,
        head,
        length-append (k ++ x ∷ []) (before xs ks i),
        length-append k (x ∷ []),
        length-append (l ++ y ∷ []) (before ys ls i),
        length-append l (y ∷ []),
        before_length i xs ys ks ls (omega arith) tail,
      )

module _ {T : Type 0} where
  -- both have the same nodes, with as many items and the same children
  pub record SameShape (s t : Heap T) : Type 0 where
    pub present : (k : ℕ) → is_some (node_of t k) ≡ is_some (node_of s k)
    pub sizes : (k : ℕ) → length (node_items t k) ≡ length (node_items s k)
    pub children : (k : ℕ) → node_children t k ≡ node_children s k
    pub len : node_count t ≡ node_count s

  pub turned : (s t : Heap T) → SameShape s t → SameShape t s
  turned s t same = record {
    present = λ k. sym (same.present k);
    sizes = λ k. sym (same.sizes k);
    children = λ k. sym (same.children k);
    len = sym same.len;
  }

module _ {T : Type 0} {s t : Heap T} (same : SameShape s t) where
  used_same : (d n : ℕ) → used t d n ≡ used s d n
  unfolding used
  used_same zero n = refl
  used_same (suc d) n = let below : used t d ≡ used s d =
      fun_ext (used_same d) in rw (same.children n, below) refl

  lists_length_from : (d : ℕ) → ((n : ℕ) → length (items_below t d n) ≡ length (items_below s d n))
      → (ns : List ℕ)
      → map length (map (items_below t d) ns) ≡ map length (map (items_below s d) ns)
  lists_length_from d below [] = refl
  lists_length_from d below (n ∷ ns) = rw (below n, lists_length_from d below ns) refl

  pub length_same : (d n : ℕ) → length (items_below t d n) ≡ length (items_below s d n)
  unfolding items_below
  length_same zero n = refl
  length_same (suc d) n =
      rw (same.children n) (weave_length (node_items t n) (node_items s n)
      (map (items_below t d) (node_children s n)) (child_lists s d n) (same.sizes n)
      (lists_length_from d (length_same d) (node_children s n)))

  node_same : {least most d n : ℕ} → IsNode least most s d n → IsNode least most t d n
  node_same {least} {most} {d} {n} node =
      record {
        present = same.present n ∙ node.present;
        enough = omega (arith, same.sizes n, node.enough);
        fits = omega (arith, same.sizes n, node.fits);
        branches = rw (same.children n, same.sizes n) node.branches;
      }

  Shaped_same : (d n : ℕ) → Shaped s d n → Shaped t d n
  unfolding Shaped
  Shaped_same zero n shaped = tt
  Shaped_same (suc d) n shaped = (
    node_same shaped.0,
    rw (same.children n) (λ i k within. Shaped_same d _ (shaped.1 i k within)),
  )

  pub but_same : {least most d n : ℕ} → ShapedBut least most s d n → ShapedBut least most t d n
  but_same {least} {most} {d} {n} shaped = record {
    node = node_same shaped.node;
    children = rw (same.children n) (λ i k within. Shaped_same d _ (shaped.children i k within));
  }

  root_same : (levels root : ℕ) → IsRoot s levels root → IsRoot t levels root
  root_same zero root shaped = tt
  root_same (suc d) root shaped = but_same shaped

  pub tree_same : {levels root : ℕ} → IsTree s levels root → IsTree t levels root
  tree_same {levels} {root} tree = record {
    shaped = root_same levels root tree.shaped;
    once = λ k. rw (used_same levels root, same.present k) (tree.once k);
    len = same.len ∙ tree.len ∙ ap length (sym (used_same levels root));
  }

  pub edge_same : (d n : ℕ) (g : Edge) → IsEdge s d n g → IsEdge t d n g
  unfolding IsEdge
  edge_same zero n g is = (is.0, is.1, omega (arith, is.2, same.sizes n))
  edge_same (suc d) n g is = rw (same.children n) (is.0, edge_same d _ (inside g) is.1)

  pub place_same : (d n : ℕ) (g : Edge) → offset t d n g ≡ offset s d n g
  unfolding offset
  place_same zero n g = refl
  place_same (suc d) n g =
      let ks = node_children s n in
      let front =
      before_length (turn g) (node_items t n) (node_items s n)
      (map (items_below t (suc d)) ks) (map (items_below s (suc d)) ks) (same.sizes n)
      (lists_length_from (suc d) (length_same (suc d)) ks) in
      rw (same.children n) (omega (arith, front, place_same d (get_or ks (turn g) 0) (inside g)))

module _ {T : Type 0} where
  -- the heaps differ in the node m at most, and there in the item at i, which is y in the second
  pub record Aside (s u : Heap T) (m i : ℕ) (y : T) : Type 0 where
    pub others : (k : ℕ) → k ≢ m → node_of u k ≡ node_of s k
    pub items_are : node_items u m ≡ take i (node_items s m) ++ (y ∷ drop (i + 1) (node_items s m))
    pub children_are : node_children u m ≡ node_children s m

  -- an item of the tree below n has its home at i in m, with these before and after it
  pub record IsHome (s : Heap T) (d n m i rank : ℕ) : Type 0 where
    pub present : IsSome (node_of s m)
    pub within : i < length (node_items s m)
    pub among : 0 < occurrences m (used s (suc d) n)
    pub front : List T
    pub back : List T
    pub many : length front ≡ rank
    pub parts : (u : Heap T) (y : T) → Aside s u m i y
        → items_below u (suc d) n ≡ front ++ (y ∷ back)

module _ {X : Type 0} where
  -- a node's items round one, and the lists before and after it
  weave_around : (xs : List X) (y : X) (ys : List X) (ks ls : List (List X))
      → length ks ≡ length xs + 1 → 0 < length ls
      → weave (xs ++ (y ∷ ys)) (ks ++ ls) ≡ weave xs ks ++ (y ∷ weave ys ls)
  weave_around xs y ys [] ls many some = absurd (omega arith)
  weave_around xs y ys (k ∷ ks) [] many some = absurd (omega arith)
  weave_around xs y ys (k ∷ ks) (l ∷ ls) many some = weave_cut xs y ys k ks l ls (omega arith)

  pub some_of : (xs : List X) (i : ℕ) → i < length xs → X
  some_of [] i within = absurd (omega arith)
  some_of (x ∷ xs) i within = x

  pub item_behind : (front : List X) (x : X) (back : List X) (e : X)
      → get_or (front ++ (x ∷ back)) (length front) e ≡ x
  item_behind [] x back e = refl
  item_behind (z ∷ front) x back e = item_behind front x back e

  set_behind : (front : List X) (x : X) (back : List X) (y : X)
      → set (front ++ (x ∷ back)) (length front) y ≡ front ++ (y ∷ back)
  set_behind [] x back y = refl
  set_behind (z ∷ front) x back y = ap (λ zs. z ∷ zs) (set_behind front x back y)

not_start : (n : ℕ) → (n ≡ 0 → ⊥) → 0 < n
not_start zero some = absurd (some refl)
not_start (suc n) some = omega arith

module _ {T : Type 0} (s : Heap T) where
  pub shaped_kid : {least most : ℕ} (d : ℕ) {n : ℕ} (i : ℕ) → ShapedBut least most s (suc d) n
      → i < length (node_children s n) → ShapedBut MIN_LEN CAPACITY s d (node_child s n i)
  unfolding Shaped
  shaped_kid d i shaped within =
      let kid = shaped.children i 0 within in
      record { node = kid.0; children = kid.1 }

  -- the edge that a start is has nothing before it
  pub place_of_start : (d n : ℕ) (g : Edge) → g.path ≡ 0 → g.index ≡ 0 → offset s d n g ≡ 0
  unfolding offset
  place_of_start zero n g path index = index
  place_of_start (suc d) n g path index =
      let first : turn g ≡ 0 = omega (arith, path) in
      let below =
      place_of_start d (node_child s n 0) (inside g) (omega (arith, path)) index in
      rw first (omega (arith, below))

  pub start_of_place : (least most d n : ℕ) (g : Edge) → ShapedBut least most s d n → IsEdge s d n g
      → offset s d n g ≡ 0 → (g.path ≡ 0) × (g.index ≡ 0)
  unfolding IsEdge offset
  start_of_place least most zero n g shaped is none = (is.1, none)
  start_of_place least most (suc d) n g shaped is none =
      let xs = node_items s n in
      let lists = child_lists s (suc d) n in
      let front =
      length-before xs lists (turn g) (omega (arith, is.0, shaped.node.branches))
      (omega (arith, is.0, length-map (node_children s n) (items_below s (suc d))))
      in
      let below = start_of_place MIN_LEN CAPACITY d _ (inside g) (shaped_kid d (turn g) shaped is.0)
      is.1 (omega (arith, none)) in
      (omega (arith, below.0, front, none), below.1)

  module _ (d n : ℕ) (g : Edge) (once : (k : ℕ) → occurrences k (used s (suc (suc d)) n) ≤ 1)
      (branches : length (node_children s n) ≡ length (node_items s n) + 1)
      (low : turn g < length (node_children s n)) (some : 0 < offset s (suc d) n g) where
    abbrev xs : List T
    xs = node_items s n

    abbrev ks : List ℕ
    ks = node_children s n

    abbrev lists : List (List T)
    lists = child_lists s (suc d) n

    abbrev i : ℕ
    i = turn g

    abbrev kid : ℕ
    kid = node_child s n (turn g)

    used_once : (k : ℕ) → occurrences k (n ∷ []) + occurrences k (flat_map (used s (suc d)) ks) ≤ 1
    unfolding used
    used_once k = omega (arith, once k, occurrences-cons k n (flat_map (used s (suc d)) ks))

    below_differs : (k : ℕ) → 0 < occurrences k (flat_map (used s (suc d)) ks) → k ≢ n
    below_differs k among at =
        let itself : occurrences k (n ∷ []) ≡ 1 = rw (← at) (occurrences_itself k) in omega
        (arith, used_once k, itself, among)

    lists_many : length lists ≡ length xs + 1
    lists_many = length-map ks (items_below s (suc d)) ∙ branches

    place_is : offset s (suc d) n g ≡ length (before xs lists i) + offset s d kid (inside g)
    unfolding offset
    place_is = refl

    -- the item stands in the node itself
    home_here : IsSome (node_of s n) → offset s d kid (inside g) ≡ 0
        → IsHome s (suc d) n n (turn g - 1) (offset s (suc d) n g - 1)
    unfolding items_below used
    home_here present first =
        let front =
        length-before xs lists i (omega (arith, low, branches))
        (omega (arith, low, branches, lists_many)) in
        let later : 0 < i = above_start i refl in
        let fore = length-take-le (i - 1) xs (omega (arith, low, branches)) in
        let fores = length-take-le i lists (omega (arith, low, branches, lists_many)) in
        record {
          present = present;
          within = omega (arith, low, branches, later);
          among = occurrences_here n (flat_map (used s (suc d)) ks);
          front = weave (take (i - 1) xs) (take i lists);
          back = weave (drop (i - 1 + 1) xs) (drop i lists);
          many =
              omega (
                arith,
                length-weave (take (i - 1) xs) (take i lists)
                    (inr (omega (arith, fore, fores, later))),
                front,
                fore,
                place_is,
                first,
                later,
              );
          parts = λ u y aside.
              let agree : AgreeAt s u (flat_map (used s (suc d)) ks) =
              λ k among. aside.others k (below_differs k among) in
              let same = (same_children s u (suc d) ks agree).items_below_same in
              rw (aside.children_are, aside.items_are, same) (
              ap (weave (take (i - 1) xs ++ (y ∷ drop (i - 1 + 1) xs)))
              (sym (take-append-drop i lists))
              ∙ weave_around (take (i - 1) xs) y (drop (i - 1 + 1) xs) (take i lists) (drop i lists)
              (omega (arith, fore, fores, later))
              (omega (arith, length-drop i lists, low, branches, lists_many))
              );
        }
      where
        above_start : (t : ℕ) → t ≡ turn g → 0 < t
        above_start zero at =
            let none : length (before xs lists i) ≡ 0 = rw (← at) refl in
            absurd (omega (arith, some, place_is, first, none))
        above_start (suc t) at = omega arith

    -- or below the child through which the path goes
    home_below : {m q : ℕ} → 0 < offset s d kid (inside g)
        → IsHome s d kid m q (offset s d kid (inside g) - 1)
        → IsHome s (suc d) n m q (offset s (suc d) n g - 1)
    unfolding items_below used
    home_below {m} more home =
        let among = used_kid s (suc d) i ks m home.among low in
        let apart : flat_map (used s (suc d)) ks ≡ flat_map (used s (suc d)) (take i ks)
        ++ (used s (suc d) kid ++ flat_map (used s (suc d)) (drop (i + 1) ks)) =
        ap (flat_map (used s (suc d))) (list_splits_at ks i 0 low)
        ∙ flat_map-append (used s (suc d)) (take i ks) (kid ∷ drop (i + 1) ks) in
        let occurs : (k : ℕ)
        → occurrences k (flat_map (used s (suc d)) ks)
        ≡ occurrences k (flat_map (used s (suc d)) (take i ks)) +
        (occurrences k (used s (suc d) kid) + occurrences k
        (flat_map (used s (suc d)) (drop (i + 1) ks))) = λ k.
        omega (
          arith,
          ap (occurrences k) apart,
          occurrences-append k (flat_map (used s (suc d)) (take i ks))
              (used s (suc d) kid ++ flat_map (used s (suc d)) (drop (i + 1) ks)),
          occurrences-append k (used s (suc d) kid)
              (flat_map (used s (suc d)) (drop (i + 1) ks)),
        ) in
        record {
          present = home.present;
          within = home.within;
          among = omega (arith, among, occurrences-cons m n (flat_map (used s (suc d)) ks));
          front = before xs lists i ++ home.front;
          back = home.back ++ after xs lists i;
          many =
              omega (
                arith,
                length-append (before xs lists i) home.front,
                home.many,
                place_is,
                more,
              );
          parts = λ u y aside.
              let f = items_below u (suc d) in
              let whole : node_of u n ≡ node_of s n =
              aside.others n (λ at. below_differs m among (sym at)) in
              let left : AgreeAt s u (flat_map (used s (suc d)) (take i ks)) =
              λ k there. aside.others k
              (λ at. omega (arith, rw at at there, occurs m, used_once m, home.among)) in
              let right : AgreeAt s u (flat_map (used s (suc d)) (drop (i + 1) ks)) =
              λ k there. aside.others k
              (λ at. omega (arith, rw at at there, occurs m, used_once m, home.among)) in
              let fores : take i (map f ks) ≡ take i lists =
              take-map f i ks
              ∙ (same_children s u (suc d) (take i ks) left).items_below_same
              ∙ sym (take-map (items_below s (suc d)) i ks) in
              let rears : drop (i + 1) (map f ks) ≡ drop (i + 1) lists =
              drop-map f (i + 1) ks
              ∙ (same_children s u (suc d) (drop (i + 1) ks) right).items_below_same
              ∙ sym (drop-map (items_below s (suc d)) (i + 1) ks) in
              let middle : get_or (map f ks) i [] ≡ home.front ++ (y ∷ home.back) =
              get_or-map f ks i 0 [] low ∙ home.parts u y aside in
              rw whole (
              weave_at xs (map f ks) i (omega (arith, low, branches)) (length-map ks f ∙ branches)
              ∙ rw (fores, rears, middle)
              (regroup (before xs lists i) home.front (y ∷ []) home.back (after xs lists i))
              );
        }

  pub home_is : (least most d n : ℕ) (g : Edge) → ShapedBut least most s d n
      → ((k : ℕ) → occurrences k (used s (suc d) n) ≤ 1) → IsEdge s d n g → 0 < offset s d n g
      → IsHome s d n (home_of s d n g).node (home_of s d n g).index (offset s d n g - 1)
  unfolding IsEdge offset home_of items_below used
  home_is least most zero n g shaped once is some = record {
    present = shaped.node.present;
    within = omega (arith, is.2, some);
    among = occurrences_here n (flat_map (used s zero) (node_children s n));
    front = take (g.index - 1) (node_items s n);
    back = drop (g.index - 1 + 1) (node_items s n);
    many = length-take-le (g.index - 1) (node_items s n) (omega (arith, is.2));
    parts = λ u y aside. let none =
        aside.children_are ∙ nil_from_length (node_children s n) shaped.node.branches in rw none
        aside.items_are;
  }
  home_is least most (suc d) n g shaped once is some =
      pick (λ more. home_is MIN_LEN CAPACITY d (node_child s n (turn g))
      (inside g) kid_shaped kid_once is.1 more) (is_start (inside g)) refl
      (home_of s (suc d) n g) refl
    where
      kid_shaped : ShapedBut MIN_LEN CAPACITY s d (node_child s n (turn g))
      kid_shaped = shaped_kid d (turn g) shaped is.0

      kid_once : (k : ℕ) → occurrences k (used s (suc d) (node_child s n (turn g))) ≤ 1
      kid_once k =
          omega (
            arith,
            once k,
            occurrences-cons k n (flat_map (used s (suc d)) (node_children s n)),
            used_kid_le s (suc d) (turn g) (node_children s n) k is.0,
          )

      pick : (0 < offset s d (node_child s n (turn g)) (inside g)
          → IsHome s d (node_child s n (turn g))
          (home_of s d (node_child s n (turn g)) (inside g)).node
          (home_of s d (node_child s n (turn g)) (inside g)).index
          (offset s d (node_child s n (turn g)) (inside g) - 1)) → (b : Bool)
          → is_start (inside g) ≡ b → (h : Home)
          → h ≡ cond b (record { node = n; index = turn g - 1 })
          (home_of s d (node_child s n (turn g)) (inside g))
          → IsHome s (suc d) n h.node h.index (offset s (suc d) n g - 1)
      pick further true start h at =
          let none = and_parts ((inside g).path == 0) ((inside g).index == 0) start in
          let first =
          place_of_start d (node_child s n (turn g)) (inside g)
          (eqb-true _ _ none.0) (eqb-true _ _ none.1) in
          rw at (home_here d n g once shaped.node.branches is.0 some shaped.node.present first)
      pick further false later h at =
          let below = node_child s n (turn g) in
          let more : 0 < offset s d below (inside g) =
          not_start (offset s d below (inside g)) (λ none.
          let start = start_of_place MIN_LEN CAPACITY d below (inside g) kid_shaped is.1 none in
          both_ways _ later (and_from _ _ (eq-eqb _ _ start.0) (eq-eqb _ _ start.1))) in
          rw at (home_below d n g once shaped.node.branches is.0 some more (further more))

  module _ {d n m i rank : ℕ} (home : IsHome s d n m i rank) where
    itself : (e : T) → Aside s s m i (get_or (node_items s m) i e)
    itself e =
        record {
          others = λ k other. refl;
          items_are = list_splits_at (node_items s m) i e home.within;
          children_are = refl;
        }

    pub home_item : (e : T) → get_or (items_below s (suc d) n) rank e ≡ get_or (node_items s m) i e
    home_item e =
        ap (λ zs. get_or zs rank e) (home.parts s _ (itself e))
        ∙ rw (← home.many) (item_behind home.front (get_or (node_items s m) i e) home.back e)

    pub home_set : {t : Heap T} (x : T)
        → Writes s t m (set (node_items s m) i x) (node_children s m)
        → items_below t (suc d) n ≡ set (items_below s (suc d) n) rank x
    home_set {t} x written =
        home.parts t x (record {
          others = written.others;
          items_are = written.items_are ∙ set_parts (node_items s m) i x home.within;
          children_are = written.children_are;
        })
        ∙ sym (ap (λ zs. set zs rank x) (home.parts s _ (itself x))
        ∙ rw (← home.many) (set_behind home.front (get_or (node_items s m) i x) home.back x))

    pub home_within : rank < length (items_below s (suc d) n)
    home_within =
        let e = some_of (node_items s m) i home.within in
        omega (
          arith,
          ap length (home.parts s _ (itself e)),
          length-append home.front (get_or (node_items s m) i e ∷ home.back),
          home.many,
        )

  -- a heap in which a node was written with as many items
  pub written_shape : {t : Heap T} {m : ℕ} {xs : List T}
      → length xs ≡ length (node_items s m) → Writes s t m xs (node_children s m) → SameShape s t
  written_shape {t} {m} many written = record {
    present =
        λ k.
        elim (cases_eq k m) [
          | inl at ↦ rw at (written.present ∙ sym written.was)
          | inr other ↦ rw (written.others k other) refl
        ];
    sizes =
        λ k.
        elim (cases_eq k m) [
          | inl at ↦ rw at (ap length written.items_are ∙ many)
          | inr other ↦ rw (written.others k other) refl
        ];
    children =
        λ k.
        elim (cases_eq k m) [
          | inl at ↦ rw at written.children_are
          | inr other ↦ rw (written.others k other) refl
        ];
    len = written.len;
  }

module _ {T : Type 0} where
  pub root_shaped : {s : Heap T} (levels : ℕ) {root : ℕ} → 0 < levels → IsTree s levels root
      → ShapedBut 1 CAPACITY s (levels - 1) root
  root_shaped {s} zero {root} some tree = absurd (omega arith)
  root_shaped (suc d) some tree = let same : suc d - 1 ≡ d = omega arith in rw same tree.shaped

  pub tree_once : {s : Heap T} {levels root : ℕ} → 0 < levels → IsTree s levels root → (k : ℕ)
      → occurrences k (used s (suc (levels - 1)) root) ≤ 1
  tree_once {s} {levels} some tree k =
      let level : suc (levels - 1) ≡ levels = omega arith in
      let most : here s k ≤ 1 = grind arith in
      rw level (omega (arith, tree.once k, most))
