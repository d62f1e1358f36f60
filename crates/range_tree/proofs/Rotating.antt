-- A node of whose children one was short, after an item was lent to that or two children were
-- joined.
use Rattle.std.proofs.Common.{◌≡◌, ◌≢◌, ◌⊎◌, ℕ, zero, suc, ◌+◌, ◌-◌, ◌^◌, ◌<◌, ◌≤◌, List, [], ◌∷◌, ◌++◌, length, get_or, take, drop, take_all, map, refl, ap, ◌∙◌, inl, inr, arith, Some, None}
use Rattle.std.proofs.Math.ListN.{set, length-set}
use Rattle.std.specs.List.{remove}
use Rattle.std.proofs.lemmas.List.{length-append, length-take-le, get_or_default, get_or-append-add, get_or_append_left, drop_all, take-append-le, drop-append-le}
use Rattle.range_nodes.specs.Heap.{Heap, child_count, HasPair, RotatesLeft, RotatesRight, Merges, Writes, Removes, node_items, node_children, node_child}
use Rattle.range_nodes.specs.declared.nodes.Split.{Split}
use Rattle.range_nodes.specs.declared.nodes.TheConstants.{CAPACITY, MIN_LEN}
use Rattle.range_tree.specs.declared.btree.path.Edge.{Edge}
use Rattle.range_tree.specs.Nodes.{before, items_below, Shrinks, IsLevelled, child_size}
use Rattle.range_tree.specs.Edges.{turn, inside, seat_of, IsEdge, offset, IsSeat, seat_offset}
use Rattle.range_tree.specs.Written.{item_behind, some_of}
use Rattle.range_tree.specs.Frame.{used_kid_le}
use Rattle.range_nodes.proofs.Occurrences.{occurrences-cons, occurrences_here, occurrences_itself}
use Rattle.range_tree.proofs.Below.{used_is}
use Rattle.range_tree.proofs.Moves.{here_le}
use Rattle.range_tree.proofs.Pairs.{pair_seat, seat_low}
use Rattle.range_tree.proofs.Contents.{IsPair, Rejoins, left_items_below, part_agree}
use Rattle.range_store.proofs.Edits.{remove_parts, set_parts, take-append-add, drop-append-add}
use Rattle.range_tree.proofs.Joining.{pair_apart, pair_content, united_agree, united_holds, united_rejoins, shared_agree, shared_left, shared_right, shared_rejoins}
use Rattle.range_tree.proofs.Levelling.{levelled_edge, levelled_shrinks, pair_children, pair_of, pair_parts}
use Rattle.range_tree.proofs.Seats.{seat_alone, seat_beside, seat_left, seat_right, seat_written}

-- the children of two neighbours, as they are cut after the first `a + 1`, or before
take_children : (d a b : ℕ) (ks ls : List ℕ) → length ks ≡ child_count d a
    → length ls ≡ child_count d b → take (a + 2) (ks ++ ls) ≡ ks ++ take 1 ls
take_children zero a b [] [] many many' = take_all (a + 2) [] (omega arith)
take_children zero a b [] (l ∷ ls) many many' = absurd (omega arith)
take_children zero a b (k ∷ ks) ls many many' = absurd (omega arith)
take_children (suc d) a b ks ls many many' = take-append-add ks ls (a + 2) 1 (omega arith)

drop_children : (d a b : ℕ) (ks ls : List ℕ) → length ks ≡ child_count d a
    → length ls ≡ child_count d b → drop (a + 2) (ks ++ ls) ≡ drop 1 ls
drop_children zero a b [] [] many many' = drop_all (a + 2) [] (omega arith)
drop_children zero a b [] (l ∷ ls) many many' = absurd (omega arith)
drop_children zero a b (k ∷ ks) ls many many' = absurd (omega arith)
drop_children (suc d) a b ks ls many many' = drop-append-add ks ls (a + 2) 1 (omega arith)

-- an edge that lies at another index of its leaf, or goes through another child first
pub moved_path : (low leaf index : ℕ) (g e : Edge)
    → (low ≡ 0 → g ≡ record { leaf = leaf; path = 0; index = index })
    → (0 < low → inside g ≡ inside e) → e.path < 2 ^ 56 → g.path < 2 ^ 60
moved_path low leaf index g e at into small = grind arith

module _ {T : Type 0} {s : Heap T} {low n j : ℕ} (levelled : IsLevelled s low n j) where
  abbrev l : ℕ
  l = node_child s n j

  abbrev r : ℕ
  r = node_child s n (j + 1)

  abbrev xs : List T
  xs = node_items s n

  abbrev ks : List ℕ
  ks = node_children s n

  abbrev lefts : List T
  lefts = node_items s (node_child s n j)

  abbrev rights : List T
  rights = node_items s (node_child s n (j + 1))

  abbrev a : ℕ
  a = length (node_items s (node_child s n j))

  abbrev b : ℕ
  b = length (node_items s (node_child s n (j + 1)))

  abbrev K : List ℕ
  K = node_children s (node_child s n j) ++ node_children s (node_child s n (j + 1))

  module _ (x : T) (here : x ≡ get_or (node_items s n) j x) where
    abbrev X : List T
    X = node_items s (node_child s n j) ++ (x ∷ node_items s (node_child s n (j + 1)))

    pair : IsPair s low l r
    pair = pair_of x levelled here

    -- an item went from one child to the other, and the first has `half`
    pub record IsShared (o t u : Heap T) (y : T) (half : ℕ) : Type 0 where
      pub first : Writes s o l (take half X) (take (half + 1) K)
      pub second : Writes o t r (drop (half + 1) X) (drop (half + 1) K)
      pub middle : y ≡ get_or X half y
      pub parent : Writes t u n (set (node_items s n) j y) (node_children s n)
      pub least : MIN_LEN ≤ half
      pub most : half ≤ CAPACITY
      pub rest : half + 1 + MIN_LEN ≤ length X
      pub few : length X ≤ half + 1 + CAPACITY

    module _ {o t u : Heap T} {y : T} {half : ℕ} (shared : IsShared o t u y half) where
      within : half < length X
      within = omega (arith, shared.rest)

      abbrev cut : Split T
      cut = record { middle = y; right = node_child s n (j + 1) }

      rejoined : Rejoins s t low l x r (Some cut)
      rejoined = shared_rejoins x pair half within shared.first shared.second cut refl
          shared.middle shared.least shared.most shared.rest shared.few

      written : Writes t u n (take j xs ++ (y ∷ drop (j + 1) xs))
          (take j ks ++ (l ∷ r ∷ drop (j + 2) ks))
      written = grind (arith, set_parts, pair_parts)

      shrunk : Shrinks s u (suc low) n (items_below s (suc (suc low)) n)
      shrunk = levelled_shrinks x levelled here rejoined written

      stays_left : (q : ℕ) (g e h : Edge) → q ≤ half → IsSeat s low X K q g
          → (low ≡ 0 → e ≡ record { leaf = l; path = 0; index = q }) → (0 < low → turn e ≡ q)
          → (0 < low → inside e ≡ g) → turn h ≡ j → inside h ≡ e
          → IsEdge u (suc low) n h
          × (offset u (suc low) n h
          ≡ length (before xs (map (items_below s (suc low)) ks) j) + seat_offset s low X K q g)
      stays_left q g e h small seat leaf at into turned inner =
          let left = seat_left s half X K q g within low (pair_content x pair).branches small seat
          in
          let agree = (part_agree s t low (half + 1) K
          (shared_agree x pair half within shared.first shared.second)).0 in
          let edge = seat_written s t l (take half X) (take (half + 1) K) q g e low
          (shared_left x pair half within shared.first shared.second) agree leaf at into left.0 in
          let alone = seat_alone t low l e (Some cut) edge.0 in
          let up = levelled_edge x levelled here rejoined written 0 e h (omega (arith, turned))
          inner
          alone.0 in
          (up.0, omega (arith, up.1, alone.1, edge.1, left.1))

      moves_right : (q : ℕ) (g e h : Edge) → half < q → IsSeat s low X K q g
          → (low ≡ 0 → e ≡ record { leaf = r; path = 0; index = q - half - 1 })
          → (0 < low → turn e ≡ q - half - 1) → (0 < low → inside e ≡ g) → turn h ≡ j + 1
          → inside h ≡ e
          → IsEdge u (suc low) n h
          × (offset u (suc low) n h
          ≡ length (before xs (map (items_below s (suc low)) ks) j) + seat_offset s low X K q g)
      moves_right q g e h large seat leaf at into turned inner =
          let right =
          seat_right s half X K q g within low (pair_content x pair).branches large seat in
          let agree = (part_agree s t low (half + 1) K
          (shared_agree x pair half within shared.first shared.second)).1 in
          let edge = seat_written s t r (drop (half + 1) X) (drop (half + 1) K) (q - half - 1) g e
          low (shared_right x pair half within shared.first shared.second) agree leaf at into
          right.0 in
          let beside = seat_beside t low l e cut edge.0 in
          let up = levelled_edge x levelled here rejoined written 1 e h turned inner beside.0 in
          let fore = ap length (left_items_below half (pair_content x pair) within
          (shared_left x pair half within shared.first shared.second)
          (shared_right x pair half within shared.first shared.second)) in
          (up.0, omega (arith, up.1, beside.1, edge.1, right.1, fore))

    -- the two became one
    module _ {o t u : Heap T} (first : Writes s o l X K) (second : Removes o t r) (parent : Writes t
        u n (remove (node_items s n) j) (remove (node_children s n) (j + 1)))
        (few : length X ≤ CAPACITY) where
      joined : Rejoins s t low l x r None
      joined = united_rejoins x pair first second few

      detached : Writes t u n (take j xs ++ drop (j + 1) xs) (take j ks ++ (l ∷ drop (j + 2) ks))
      detached = grind (arith, pair_children x levelled here joined None, remove_parts xs j)

      merged_shrinks : Shrinks s u (suc low) n (items_below s (suc (suc low)) n)
      merged_shrinks = levelled_shrinks x levelled here joined detached

      merged_edge : (q : ℕ) (g e h : Edge) → IsSeat s low X K q g
          → (low ≡ 0 → e ≡ record { leaf = l; path = 0; index = q }) → (0 < low → turn e ≡ q)
          → (0 < low → inside e ≡ g) → turn h ≡ j → inside h ≡ e
          → IsEdge u (suc low) n h
          × (offset u (suc low) n h
          ≡ length (before xs (map (items_below s (suc low)) ks) j) + seat_offset s low X K q g)
      merged_edge q g e h seat leaf at into turned inner =
          let edge = seat_written s t l X K q g e low
          (united_holds x pair first second few) (united_agree x pair first second few) leaf at into
          seat in
          let alone = seat_alone t low l e None edge.0 in
          let up = levelled_edge x levelled here joined detached 0 e h (omega (arith, turned)) inner
          alone.0 in
          (up.0, omega (arith, up.1, alone.1, edge.1))

  kid_apart : (i : ℕ) → i < length ks → get_or ks i 0 ≢ n
  kid_apart i low' same =
      let inner = used_kid_le s (suc low) i ks n low' in
      grind (arith, used_is, occurrences_here, occurrences-cons, occurrences_itself, here_le)

  pub has_pair : HasPair s n j
  has_pair = record {
    parent = levelled.node.present;
    item = levelled.within;
    child = omega (arith, levelled.within, levelled.node.branches);
    left = levelled.left.node.present;
    right = levelled.right.node.present;
    left_apart = kid_apart j (omega (arith, levelled.within, levelled.node.branches));
    right_apart = kid_apart (j + 1) (omega (arith, levelled.within, levelled.node.branches));
    apart =
        pair_apart (get_or xs j some) (pair_of (get_or xs j some) levelled
        (get_or_default xs j some _ levelled.within));
    below = low;
    left_branches = levelled.left.node.branches;
    right_branches = levelled.right.node.branches;
  }
    where
      some : T
      some = some_of (node_items s n) j levelled.within

  -- the edges below the two
  edge_itself : (d k : ℕ) (e : Edge) → IsEdge s d k e
      → (d ≡ 0 → e ≡ record { leaf = k; path = 0; index = seat_of d e })
      × (0 < d → turn e ≡ seat_of d e)
  unfolding IsEdge
  edge_itself d k e is = grind arith

  -- the child at j lent an item to the one after it
  module _ {u : Heap T} (rotates : RotatesRight s u n j) (spare : MIN_LEN < child_size s n j)
      (room : child_size s n (j + 1) < CAPACITY) where
    to_right : IsShared rotates.down rotates.down_is rotates.rotates.first rotates.rotates.second u
        rotates.up (a - 1)
    to_right =
        let more = rotates.down ∷ rights in
        grind (
          arith,
          length-append lefts more,
          length-take-le (a - 1) lefts (omega arith),
          take-append-le,
          drop-append-add lefts more (a - 1 + 1) 0 (omega arith),
          drop-append-le,
          get_or_append_left,
          item_behind,
        )

    pub next_shrinks : Shrinks s u (suc low) n (items_below s (suc (suc low)) n)
    next_shrinks = shrunk rotates.down rotates.down_is to_right

    pub next_kept : length (node_items u n) ≡ length (node_items s n)
    next_kept = ap length rotates.rotates.parent.items_are ∙ length-set xs j rotates.up

    pub next_edge : (e g h : Edge) → IsEdge s low r e
        → (low ≡ 0 → g ≡ record { leaf = r; path = 0; index = seat_of low e + 1 })
        → (0 < low → turn g ≡ seat_of low e + 1) → (0 < low → inside g ≡ inside e) → turn h ≡ j + 1
        → inside h ≡ g
        → IsEdge u (suc low) n h × (offset u (suc low) n h ≡ seat_offset s (suc low) xs ks (j + 1) e)
    next_edge e g h is leaf at into turned inner =
        let q = a + 1 + seat_of low e in
        let seat = pair_seat rotates.down levelled rotates.down_is (j + 1) e q (inr refl) is
        (λ none. absurd (omega (arith, none))) (λ some. refl) in
        let moved : a + 1 + seat_of low e - (a - 1) - 1 ≡ seat_of low e + 1 =
        omega (arith, spare) in
        let up = moves_right rotates.down rotates.down_is to_right q (inside e) g h (omega arith)
        seat.0 (rw moved leaf) (rw moved at) into turned inner in
        (up.0, up.1 ∙ seat.1)

    -- an edge below the child at j, before the item that went
    pub next_edge_before : (e h : Edge) → IsEdge s low l e → seat_of low e < child_size s n j
        → turn h ≡ j → inside h ≡ e
        → IsEdge u (suc low) n h × (offset u (suc low) n h ≡ seat_offset s (suc low) xs ks j e)
    next_edge_before e h is early turned inner =
        let seat = pair_seat rotates.down levelled rotates.down_is j e (seat_of low e) (inl refl) is
        (λ none. refl) (λ some. absurd (omega (arith, some))) in
        let itself = edge_itself low l e is in
        let up = stays_left rotates.down rotates.down_is to_right (seat_of low e) (inside e) e h
        (omega (arith, early)) seat.0 itself.0 itself.1 (λ some. refl) turned inner in
        (up.0, up.1 ∙ seat.1)

  -- the child after j lent an item to that at j
  module _ {u : Heap T} (rotates : RotatesLeft s u n j)
      (spare : MIN_LEN < child_size s n (j + 1)) (room : child_size s n j < CAPACITY) where
    to_left : IsShared rotates.down rotates.down_is rotates.rotates.first rotates.rotates.second u
        rotates.up (a + 1)
    to_left =
        let more = rotates.down ∷ rights in
        let long = length-append lefts more in
        let next : a + 1 + 1 ≡ a + 2 = omega arith in
        grind (
          arith,
          take-append-add lefts more (a + 1) 1 refl,
          take_children,
          drop-append-add lefts more (a + 1 + 1) 2 next,
          drop_children,
          get_or-append-add,
        )

    pub previous_shrinks : Shrinks s u (suc low) n (items_below s (suc (suc low)) n)
    previous_shrinks = shrunk rotates.down rotates.down_is to_left

    pub previous_kept : length (node_items u n) ≡ length (node_items s n)
    previous_kept = ap length rotates.rotates.parent.items_are ∙ length-set xs j rotates.up

    pub previous_edge : (e h : Edge) → IsEdge s low l e → turn h ≡ j → inside h ≡ e
        → IsEdge u (suc low) n h × (offset u (suc low) n h ≡ seat_offset s (suc low) xs ks j e)
    previous_edge e h is turned inner =
        let seat = pair_seat rotates.down levelled rotates.down_is j e (seat_of low e) (inl refl) is
        (λ none. refl) (λ some. absurd (omega (arith, some))) in
        let itself = edge_itself low l e is in
        let up = stays_left rotates.down rotates.down_is to_left (seat_of low e) (inside e) e h
        (omega (arith, seat_low low e levelled.left is)) seat.0 itself.0 itself.1 (λ some. refl)
        turned inner in
        (up.0, up.1 ∙ seat.1)

    -- an edge below the child after j, behind the item that went
    pub previous_edge_behind : (e g h : Edge) → IsEdge s low r e → 0 < seat_of low e
        → (low ≡ 0 → g ≡ record { leaf = r; path = 0; index = seat_of low e - 1 })
        → (0 < low → turn g ≡ seat_of low e - 1) → (0 < low → inside g ≡ inside e) → turn h ≡ j + 1
        → inside h ≡ g
        → IsEdge u (suc low) n h × (offset u (suc low) n h ≡ seat_offset s (suc low) xs ks (j + 1) e)
    previous_edge_behind e g h is later leaf at into turned inner =
        let q = a + 1 + seat_of low e in
        let seat = pair_seat rotates.down levelled rotates.down_is (j + 1) e q (inr refl) is
        (λ none. absurd (omega (arith, none))) (λ some. refl) in
        let moved : a + 1 + seat_of low e - (a + 1) - 1 ≡ seat_of low e - 1 = omega arith in
        let up = moves_right rotates.down rotates.down_is to_left q (inside e) g h
        (omega (arith, later)) seat.0 (rw moved leaf) (rw moved at) into turned inner in
        (up.0, up.1 ∙ seat.1)

  -- the two were joined
  module _ {u : Heap T} (merges : Merges s u n j)
      (few : child_size s n j + 1 + child_size s n (j + 1) ≤ CAPACITY) where
    fits : length (node_items s l ++ (merges.down ∷ node_items s r)) ≤ CAPACITY
    fits = omega (arith, length-append (node_items s l) (merges.down ∷ node_items s r))

    pub joined_shrinks : Shrinks s u (suc low) n (items_below s (suc (suc low)) n)
    joined_shrinks = merged_shrinks merges.down merges.down_is merges.left merges.right
        merges.parent fits

    pub joined_edge : (i : ℕ) (e g h : Edge) (q : ℕ) → (i ≡ j) ⊎ (i ≡ j + 1)
        → IsEdge s low (get_or ks i 0) e → (i - j ≡ 0 → q ≡ seat_of low e)
        → (0 < i - j → q ≡ length (node_items s l) + 1 + seat_of low e)
        → (low ≡ 0 → g ≡ record { leaf = l; path = 0; index = q }) → (0 < low → turn g ≡ q)
        → (0 < low → inside g ≡ inside e) → turn h ≡ j → inside h ≡ g
        → IsEdge u (suc low) n h × (offset u (suc low) n h ≡ seat_offset s (suc low) xs ks i e)
    joined_edge i e g h q near is first second leaf at into turned inner =
        let seat = pair_seat merges.down levelled merges.down_is i e q near is first second
        in
        let up = merged_edge merges.down merges.down_is merges.left merges.right merges.parent fits
        q (inside e) g h seat.0 leaf at into turned inner in
        (up.0, up.1 ∙ seat.1)
