-- The labels and the tree of a block, by those of its halves.
use Rattle.std.proofs.Common.{◌≡◌, ℕ, zero, suc, ◌+◌, ◌-◌, ◌≤◌, ◌<◌, ◌^◌, Bool, true, false, if◌then◌else◌, nat_eq, List, [], ◌∷◌, ◌++◌, append_assoc, filter, length, Option, Some, None, ap, sym, subst, ◌∙◌, arith}
use Rattle.std.specs.List.{AllByRecursion}
use Rattle.std.proofs.Math.Path.{fun_ext}
use Rattle.shortest_tables.specs.Tables.{Bits}
use Rattle.shortest_tables.specs.Labels.{Labels, Unbound, Among, among_or, common, half, has, join, labels, leaf}
use Rattle.shortest_tables.specs.Numbers.{AreLeft, IsNumbered, IsUniform, as_labels, block, number}
use Rattle.shortest_tables.specs.Trees.{IsBlockGathered, IsClear, IsGathered, IsTreeOf, SayAlike, Tree, Whole, Divided, labels_of, nodes_of}
use Rattle.shortest_tables.specs.declared.marks.Marks.{Marks}
use Rattle.shortest_tables.specs.declared.marks.Node.{Node}
use Rattle.shortest_tables.specs.declared.spans.Span.{Span}
use Rattle.std.proofs.lemmas.Bool.Decides.{Decides-eqb}
use Rattle.shortest_tables.proofs.Blocks.{all_labels, number_high, number_low}
use Rattle.shortest_tables.proofs.Walks.{left_numbered}

pub half_power : (free : ℕ) → 0 < free → 2 ^ free ≡ 2 ^ (free - 1) + 2 ^ (free - 1)
half_power zero h = absurd (omega arith)
half_power (suc free) h = let same : suc free - 1 ≡ free = omega arith in rw same (omega arith)

pub high_half : (otherwise : Option ℕ) (spans left : List (Span ℕ)) (less from : ℕ)
    → SayAlike otherwise (from + 2 ^ less) spans left
    → block otherwise left less (from + 2 ^ less) ≡ half true (block otherwise spans (suc less) from)
high_half otherwise spans left less from alike =
    fun_ext (λ a. alike (number less (from + 2 ^ less) a) (number_low less (from + 2 ^ less) a))

module _ (otherwise : Option ℕ) (spans left : List (Span ℕ)) (free less from middle : ℕ) where
  pub joined_labels : free ≡ suc less → middle ≡ from + 2 ^ less → SayAlike otherwise middle spans left
      → (vs ws : List ℕ) → as_labels vs ≡ labels nat_eq less (block otherwise spans less from)
      → as_labels ws ≡ labels nat_eq less (block otherwise left less middle)
      → join nat_eq (as_labels vs) (as_labels ws) ≡ labels nat_eq free (block otherwise spans free from)
  joined_labels e m alike vs ws low high =
      let alike_too : SayAlike otherwise (from + 2 ^ less) spans left = rw m at alike in
      let high_too : as_labels ws ≡ labels nat_eq less (block otherwise left less (from + 2 ^ less)) = rw m at high in
      rw e (ap (λ x. join nat_eq x (as_labels ws)) low
      ∙ ap (λ x. join nat_eq (labels nat_eq less (block otherwise spans less from)) x)
      (high_too ∙ ap (λ f. labels nat_eq less f) (high_half otherwise spans left less from alike_too)))

  pub divided_tree : free ≡ suc less → middle ≡ from + 2 ^ less → SayAlike otherwise middle spans left
      → (old one two new : Marks) (best : List ℕ)
      → as_labels best ≡ labels nat_eq free (block otherwise spans free from)
      → IsGathered less (block otherwise spans less from) old one
      → IsGathered less (block otherwise left less middle) one two
      → new.nodes.items ≡ two.nodes.items ++ record { is_divided = true; labels = length best } ∷ []
      → new.labels.items ≡ two.labels.items ++ best
      → IsGathered free (block otherwise spans free from) old new
  divided_tree e m alike old one two new best is low high nodes others =
      let alike_too : SayAlike otherwise (from + 2 ^ less) spans left = rw m at alike in
      let same : block otherwise left less middle ≡ half true (block otherwise spans (suc less) from) =
      ap (λ n. block otherwise left less n) m ∙ high_half otherwise spans left less from alike_too in
      let best_too : as_labels best ≡ labels nat_eq (suc less) (block otherwise spans (suc less) from) = rw e at is in
      let node : Node = record { is_divided = true; labels = length best } in
      let t : Tree = low.0 in
      let s : Tree = high.0 in
      let high_tree : IsTreeOf less (half true (block otherwise spans (suc less) from)) s =
      subst (λ f. IsTreeOf less f s) same high.1 in
      let all_nodes : new.nodes.items ≡ old.nodes.items ++ (nodes_of t ++ nodes_of s ++ node ∷ []) =
      nodes ∙ ap (λ x. x ++ node ∷ []) (high.2.0 ∙ ap (λ x. x ++ nodes_of s) low.2.0
      ∙ append_assoc old.nodes.items (nodes_of t) (nodes_of s))
      ∙ append_assoc old.nodes.items (nodes_of t ++ nodes_of s) (node ∷ []) in
      let all_labels : new.labels.items ≡ old.labels.items ++ (labels_of t ++ labels_of s ++ best) =
      others ∙ ap (λ x. x ++ best) (high.2.1 ∙ ap (λ x. x ++ labels_of s) low.2.1
      ∙ append_assoc old.labels.items (labels_of t) (labels_of s))
      ∙ append_assoc old.labels.items (labels_of t ++ labels_of s) best in
      rw e (Divided best t s, (best_too, low.1, high_tree), (all_nodes, all_labels))

pub whole_labels : (otherwise : Option ℕ) (spans : List (Span ℕ)) (free from : ℕ) (x : Option ℕ)
    → IsUniform otherwise spans free from x → (a : Bits) → block otherwise spans free from a ≡ x
whole_labels otherwise spans free from x uniform a =
    uniform (number free from a) (number_low free from a, number_high free from a)

pub whole_tree : (otherwise : Option ℕ) (spans : List (Span ℕ)) (free from : ℕ) (x : Option ℕ)
    (old new : Marks) (best : List ℕ) → IsUniform otherwise spans free from x
    → as_labels best ≡ leaf nat_eq x
    → new.nodes.items ≡ old.nodes.items ++ record { is_divided = false; labels = length best } ∷ []
    → new.labels.items ≡ old.labels.items ++ best
    → IsGathered free (block otherwise spans free from) old new
whole_tree otherwise spans free from x old new best uniform is nodes others =
    (Whole best, (x, whole_labels otherwise spans free from x uniform, is), (nodes, others))

module _ (count : ℕ) where
  abbrev pub AreNumbered : Labels ℕ → Type 0
  AreNumbered Unbound = Unit {0}
  AreNumbered (Among v vs) = AllByRecursion (λ w. w < count) (v ∷ vs)

  all_append : (vs ws : List ℕ) → AllByRecursion (λ w. w < count) vs
      → AllByRecursion (λ w. w < count) ws → AllByRecursion (λ w. w < count) (vs ++ ws)
  all_append [] ws h k = k
  all_append (v ∷ vs) ws h k = (h.0, all_append vs ws h.1 k)

  all_filter : (p : ℕ → Bool) (vs : List ℕ) → AllByRecursion (λ w. w < count) vs
      → AllByRecursion (λ w. w < count) (filter p vs)
  all_filter p [] h = tt
  all_filter p (v ∷ vs) h = elim (p v)
      as (λ t. AllByRecursion (λ w. w < count) (if t then v ∷ filter p vs else filter p vs)) [
        | true ↦ (h.0, all_filter p vs h.1)
        | false ↦ all_filter p vs h.1
      ]

  among_numbered : (us : List ℕ) (v : ℕ) (vs : List ℕ) → AllByRecursion (λ w. w < count) us
      → AllByRecursion (λ w. w < count) (v ∷ vs) → AreNumbered (among_or nat_eq us v vs)
  among_numbered [] v vs h k = k
  among_numbered (u ∷ us) v vs h k = h

  join_numbered : (ls ms : Labels ℕ) → AreNumbered ls → AreNumbered ms
      → AreNumbered (join nat_eq ls ms)
  join_numbered Unbound ms h k = tt
  join_numbered (Among v vs) Unbound h k = tt
  join_numbered (Among v vs) (Among w ws) h k =
      among_numbered (common nat_eq (v ∷ vs) (w ∷ ws)) v (vs ++ w ∷ ws)
      (all_filter (λ u. has nat_eq u (w ∷ ws)) (v ∷ vs) h)
      (all_append (v ∷ vs) (w ∷ ws) h k)

  pub leaf_numbered : (x : Option ℕ) → IsNumbered count x → AreNumbered (leaf nat_eq x)
  leaf_numbered None h = tt
  leaf_numbered (Some v) h = (h, tt)

  pub labels_numbered : (width : ℕ) (f : Bits → Option ℕ) → ((a : Bits) → IsNumbered count (f a))
      → AreNumbered (labels nat_eq width f)
  labels_numbered zero f h = leaf_numbered (f []) (h [])
  labels_numbered (suc width) f h =
      join_numbered (labels nat_eq width (half false f)) (labels nat_eq width (half true f))
      (labels_numbered width (half false f) (λ a. h (false ∷ a)))
      (labels_numbered width (half true f) (λ a. h (true ∷ a)))

  list_numbered : (vs : List ℕ) → AreNumbered (as_labels vs) → AllByRecursion (λ w. w < count) vs
  list_numbered [] h = tt
  list_numbered (v ∷ vs) h = h

  -- the labels of a block are below the bound
  pub best_numbered : (otherwise : Option ℕ) (left : List (Span ℕ)) (start free from : ℕ)
      (best : List ℕ) → IsNumbered count otherwise → AreLeft count start left
      → as_labels best ≡ labels nat_eq free (block otherwise left free from)
      → AllByRecursion (λ w. w < count) best
  best_numbered otherwise left start free from best h ascend is =
      list_numbered best (subst (λ ls. AreNumbered ls) (sym is)
      (labels_numbered free (block otherwise left free from)
      (λ a. left_numbered otherwise count start left h ascend (number free from a))))

-- likewise of the list as it is shown, and by the bound as it is counted
pub shown_numbered : (count many : ℕ) (otherwise : Option ℕ) (left : List (Span ℕ))
    (start free from : ℕ) (best shown : List ℕ) → many ≡ count → shown ≡ best
    → IsNumbered count otherwise → AreLeft count start left
    → as_labels best ≡ labels nat_eq free (block otherwise left free from)
    → AllByRecursion (λ w. w < many) shown
shown_numbered count many otherwise left start free from best shown same shows h ascend is =
    rw (same, shows) (best_numbered count otherwise left start free from best h ascend is)

pub gathered_whole : (otherwise : Option ℕ) (spans left : List (Span ℕ)) (free from : ℕ)
    (x : Option ℕ) (old new : Marks) (best shown : List ℕ) → IsUniform otherwise spans free from x
    → as_labels best ≡ leaf nat_eq x → shown ≡ best → IsClear old.seen.items
    → AreLeft (length old.seen.items) (from + 2 ^ free) left
    → SayAlike otherwise (from + 2 ^ free) spans left
    → new.nodes.items ≡ old.nodes.items ++ record { is_divided = false; labels = length shown } ∷ []
    → new.labels.items ≡ old.labels.items ++ shown → new.seen ≡ old.seen
    → IsBlockGathered otherwise spans free from old new best left
gathered_whole otherwise spans left free from x old new best shown uniform is same clear ahead alike
    nodes others seen =
    let nodes_too : new.nodes.items ≡ old.nodes.items ++ record { is_divided = false; labels = length best } ∷ [] =
    nodes ∙ ap (λ y. old.nodes.items ++ record { is_divided = false; labels = length y } ∷ []) same in
    let others_too : new.labels.items ≡ old.labels.items ++ best = others ∙ ap (λ y. old.labels.items ++ y) same in
    record {
      labelled = is ∙ sym (all_labels nat_eq Decides-eqb free (block otherwise spans free from) x
          (whole_labels otherwise spans free from x uniform));
      added = whole_tree otherwise spans free from x old new best uniform is nodes_too others_too;
      clear = subst (λ s. IsClear s.items) (sym seen) clear;
      count = ap (λ s. length s.items) seen;
      ahead = ahead;
      alike = alike;
    }

module _ (otherwise : Option ℕ) (spans mid left : List (Span ℕ)) (free less from middle : ℕ)
    (old one two joined new : Marks) (lows highs best shown : List ℕ) where
  pub gathered_divided : free ≡ suc less → middle ≡ from + 2 ^ less
      → IsBlockGathered otherwise spans less from old one lows mid
      → IsBlockGathered otherwise mid less middle one two highs left
      → as_labels best ≡ join nat_eq (as_labels lows) (as_labels highs) → shown ≡ best
      → joined.nodes ≡ two.nodes → joined.labels ≡ two.labels → IsClear joined.seen.items
      → length joined.seen.items ≡ length two.seen.items
      → new.nodes.items ≡ joined.nodes.items ++ record { is_divided = true; labels = length shown } ∷ []
      → new.labels.items ≡ joined.labels.items ++ shown → new.seen ≡ joined.seen
      → IsBlockGathered otherwise spans free from old new best left
  gathered_divided e m low high is same same_nodes same_labels clear count nodes others seen =
      let end : middle + 2 ^ less ≡ from + 2 ^ free = rw (m, e) (omega arith) in
      let alike : SayAlike otherwise middle spans mid = rw m low.alike in
      let later : middle ≤ from + 2 ^ free = omega (arith, end) in
      let labelled : as_labels best ≡ labels nat_eq free (block otherwise spans free from) =
      is ∙ joined_labels otherwise spans mid free less from middle e m alike lows highs low.labelled high.labelled in
      let nodes_too : new.nodes.items ≡ two.nodes.items ++ record { is_divided = true; labels = length best } ∷ [] =
      nodes ∙ ap (λ v. v.items ++ record { is_divided = true; labels = length shown } ∷ []) same_nodes
      ∙ ap (λ y. two.nodes.items ++ record { is_divided = true; labels = length y } ∷ []) same in
      let others_too : new.labels.items ≡ two.labels.items ++ best =
      others ∙ ap (λ v. v.items ++ shown) same_labels ∙ ap (λ y. two.labels.items ++ y) same in
      let all_count : length new.seen.items ≡ length old.seen.items =
      ap (λ s. length s.items) seen ∙ count ∙ high.count ∙ low.count in
      record {
        labelled = labelled;
        added = divided_tree otherwise spans mid free less from middle e m alike old one two new best
            labelled low.added high.added nodes_too others_too;
        clear = subst (λ s. IsClear s.items) (sym seen) clear;
        count = all_count;
        ahead = subst (λ n. AreLeft n (from + 2 ^ free) left) low.count
            (subst (λ n. AreLeft (length one.seen.items) n left) end high.ahead);
        alike = λ n h. high.alike n (rw end h) ∙ low.alike n (let first : middle ≤ n = omega (arith, h, later) in rw (sym m) first);
      }
