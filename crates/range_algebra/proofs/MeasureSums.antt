-- The measures of ranges in order add up to less than 2 ^ 128, and over counted keys to the number
-- of their keys.
use Rattle.std.proofs.Common.{◌≡◌, ℕ, ◌+◌, ◌<◌, ◌≤◌, ◌^◌, inl, inr, refl, sym, ap, subst, ◌∙◌, arith, Option, Some, None, List, [], ◌∷◌, lit<, rules}
use Rattle.std.specs.Option.{IsSomeAnd}
use Rattle.std.specs.declared.ops.Bound.{Bound}
use Rattle.std.specs.declared.ops.Bound.TheVariants.{Included, Excluded, Unbounded}
use Rattle.std.specs.Ordering.{is_gt}
use Rattle.std.specs.Cmp.{upto}
use Rattle.range_keys.specs.Order.{KeyOrder, IsLawful, IsMeasure, Below, NotAbove, Tells}
use Rattle.range_keys.specs.Counted.{IsCountedMeasure, counted_lawful}
use Rattle.range_keys.specs.Position.{start_position, end_position, position_cmp, at_known}
use Rattle.range_keys.specs.PositionOrder.{position_total}
use Rattle.range_keys.specs.declared.inner.position.Position.{Position}
use Rattle.range_keys.specs.declared.inner.position.Position.TheVariants.{Beside}
use Rattle.range_keys.specs.declared.inner.position.Side.TheVariants.{Before, At, After}
use Rattle.range_keys.proofs.Orderings.{any_then_equal}
use Rattle.range_algebra.specs.declared.any.AnyRange.{AnyRange}
use Rattle.range_algebra.specs.Cuts.{past, lower, upper}
use Rattle.range_algebra.specs.Intervals.{Le, Any}
use Rattle.range_algebra.specs.Orders.{lt_le_trans, lt_trans}
use Rattle.range_algebra.specs.Range.{Holds, IsBoundOfKey, IsKeyRange, IsEmptyRange}
use Rattle.range_algebra.specs.Relations.{LiesBefore}
use Rattle.range_algebra.specs.Measures.{closed_by, measure_between, measure_sum, range_measure, list_measure, AreInOrder}
use Rattle.range_algebra.specs.Numbers.{IsNumberOfKeys}
use Rattle.range_algebra.proofs.Distances.{IsPlace, gap, gap_adds, gap_fits}
use Rattle.range_algebra.proofs.Meeting.{before_is, not_greater}
use Rattle.range_algebra.proofs.Joined.{ends_below}
use Rattle.range_algebra.proofs.Measuring.{included_included, included_excluded, excluded_included, excluded_excluded, told_start, told_end, told_known, told_reach, full_measure, measure_is_number}
use Rattle.range_algebra.proofs.Numbers.{number_none, number_both}
use Rattle.range_algebra.proofs.Positions.{reaching_is_before_past}

-- a sum that is there has both parts
sum_parts : (o p : Option ℕ) (n : ℕ) → measure_sum o p ≡ Some n
    → (m : ℕ) × (k : ℕ) × (o ≡ Some m) × (p ≡ Some k) × (m + k ≡ n)
sum_parts o p n e = grind arith

module _ {K : Type 0} (order : KeyOrder K) (lawful : IsLawful order) where
  ends_after : (s e : Bound K) → IsBoundOfKey order s → IsBoundOfKey order e
      → Le (position_cmp order.cmp) (start_position order s) (end_position order e)
      → Le (position_cmp order.cmp) (start_position order s) (past order (end_position order e))
  ends_after s e known known' h = grind (arith, reaching_is_before_past)

  -- where the one lies before the other, its upper place is at most the other's lower one
  before_is_below : (r s : AnyRange K) → IsKeyRange order r → IsKeyRange order s
      → LiesBefore order r s → Le (position_cmp order.cmp) (upper order r) (lower order s)
  before_is_below r s known others h =
      (before_is order lawful r.end s.start known.1 others.0).0 h

  before_trans : (r s t : AnyRange K) → ¬ IsEmptyRange order s → LiesBefore order r s
      → LiesBefore order s t → LiesBefore order r t
  before_trans r s t full h k =
      let total = position_total order.cmp lawful.total in
      lt_trans _ total _ _ _ (lt_le_trans _ total _ _ _ h (not_greater _ full)) k

  -- in order without the second
  order_without_second : (r s : AnyRange K) (ranges : List (AnyRange K))
      → AreInOrder order (r ∷ s ∷ ranges) → AreInOrder order (r ∷ ranges)
  order_without_second r s ranges h = grind (arith, before_trans)

  pub rest_in_order : (r : AnyRange K) (ranges : List (AnyRange K)) → AreInOrder order (r ∷ ranges)
      → AreInOrder order ranges
  rest_in_order r ranges h = grind arith

  pub first_known : (r : AnyRange K) (ranges : List (AnyRange K)) → AreInOrder order (r ∷ ranges)
      → IsKeyRange order r × ¬ IsEmptyRange order r
  first_known r ranges h = grind arith

  -- the keys of the first range are below those of all others
  below_all : (r : AnyRange K) (ranges : List (AnyRange K)) (a b : K)
      → AreInOrder order (r ∷ ranges) → order.is_key a → order.is_key b → Holds order r a
      → Any (λ s. Holds order s b) ranges → Below order a b
  below_all r [] a b h key key' f g = absurd g
  below_all r (s ∷ ranges) a b h key key' f (inl g) =
      ends_below order lawful r s h.2 a b key key' f g
  below_all r (s ∷ ranges) a b h key key' f (inr g) = search (rules, order_without_second, below_all r ranges a b (order_without_second r s ranges h) key key' f g)

  module _ (len : K → ℕ) (distance : K → K → ℕ) (measured : IsMeasure order len distance) where
    -- the place lies so much above the key
    record LiesAbove (a : K) (p : Position K) (n : ℕ) : Type 0 where
      is_place : IsPlace order lawful len distance measured p
      from : Le (position_cmp order.cmp) (Beside a At) p
      much : gap order lawful len distance measured (Beside a At) p ≡ n

    key_place : (a : K) → order.is_key a → IsPlace order lawful len distance measured (Beside a At)
    unfolding IsPlace
    key_place a key = key

    past_place : (a : K) → order.is_key a
        → IsPlace order lawful len distance measured (Beside a After)
    unfolding IsPlace
    past_place a key = key

    between_keys : (a b : K)
        → gap order lawful len distance measured (Beside a At) (Beside b At) ≡ distance a b
    unfolding gap
    between_keys a b = omega arith

    behind_key : (a : K)
        → gap order lawful len distance measured (Beside a At) (Beside a After)
        ≡ distance a a + len a
    unfolding gap
    behind_key a = omega arith

    at_key : (a : K) → order.is_key a → LiesAbove a (Beside a At) 0
    at_key a key = grind (arith, key_place, between_keys)

    -- the place after a key
    measure_after_key : (a : K) (o : Option K) → order.succ a ≡ o → order.is_key a
        → LiesAbove a (at_known o (Beside a After)) (len a)
    measure_after_key a o e key = grind (arith, past_place, behind_key, key_place, between_keys)

    -- the place before a key, after the neighbour that is told
    before_by : (a b : K) (o : Option K) → order.succ a ≡ o → Tells order o b → order.is_key b
        → LiesAbove b (at_known o (Beside a After)) 0
    before_by a b o e t key = grind (arith, key_place, between_keys)

    before_key : (b : K) (o : Option K) → order.pred b ≡ o → order.is_key b
        → LiesAbove b (past order (at_known o (Beside b Before))) 0
    before_key b None e key = at_key b key
    before_key b (Some a) e key = before_by a b (order.succ a) refl (lawful.pred_succ a b e) key

    -- what lies between the places of two bounds
    record IsGap (p q : Position K) (n : ℕ) : Type 0 where
      low : IsPlace order lawful len distance measured p
      high : IsPlace order lawful len distance measured q
      much : gap order lawful len distance measured p q ≡ n

    measures_join : (a b : K) (p q : Position K) (off put n : ℕ) → order.is_key a → order.is_key b
        → NotAbove order a b → LiesAbove a p off → LiesAbove b q put
        → Le (position_cmp order.cmp) p q → off + n ≡ distance a b + put → IsGap p q n
    measures_join a b p q off put n key key' l start end h sum =
        let through =
        gap_adds order lawful len distance measured (Beside a At) p q
        (key_place a key) start.is_place end.is_place start.from h in
        let up : Le (position_cmp order.cmp) (Beside a At) (Beside b At) =
        ap is_gt (any_then_equal (order.cmp a b)) ∙ l in
        let past_end =
        gap_adds order lawful len distance measured (Beside a At) (Beside b At) q
        (key_place a key) (key_place b key') end.is_place up end.from in
        let keys = between_keys a b in
        let i = start.much in
        let j = end.much in
        record { low = start.is_place; high = end.is_place; much = omega arith }

    bounds_gap : (s e : Bound K) (n : ℕ) → IsBoundOfKey order s → IsBoundOfKey order e
        → Le (position_cmp order.cmp) (start_position order s) (end_position order e)
        → measure_between len distance s e ≡ Some n
        → IsGap (start_position order s) (past order (end_position order e)) n
    bounds_gap Unbounded e n known known' h m = cc
    bounds_gap (Included a) Unbounded n known known' h m = cc
    bounds_gap (Excluded a) Unbounded n known known' h m = cc
    bounds_gap (Included a) (Included b) n known known' h m =
        let l = included_included order lawful (Included a) (Included b) a b refl refl h in
        measures_join a b _ _ 0 (len b) n known known' l (at_key a known)
        (measure_after_key b (order.succ b) refl known')
        (ends_after (Included a) (Included b) known known' h) (grind arith)
    bounds_gap (Included a) (Excluded b) n known known' h m =
        let l = included_excluded order lawful (Included a) (Excluded b) a b refl refl h in
        measures_join a b _ _ 0 0 n known known' (ap is_gt l) (at_key a known)
        (before_key b (order.pred b) refl known')
        (ends_after (Included a) (Excluded b) known known' h) (grind arith)
    bounds_gap (Excluded a) (Included b) n known known' h m =
        let l = excluded_included order lawful (Excluded a) (Included b) a b refl refl h in
        let fits = measured.at_least a b known known' l in
        measures_join a b _ _ (len a) (len b) n known known' (ap is_gt l)
        (measure_after_key a (order.succ a) refl known)
        (measure_after_key b (order.succ b) refl known')
        (ends_after (Excluded a) (Included b) known known' h) (grind arith)
    bounds_gap (Excluded a) (Excluded b) n known known' h m =
        let l = excluded_excluded order lawful (Excluded a) (Excluded b) a b refl refl h in
        let fits = measured.at_least a b known known' l in
        measures_join a b _ _ (len a) 0 n known known' (ap is_gt l)
        (measure_after_key a (order.succ a) refl known)
        (before_key b (order.pred b) refl known')
        (ends_after (Excluded a) (Excluded b) known known' h) (grind arith)

    range_gap : (r : AnyRange K) (n : ℕ) → IsKeyRange order r → ¬ IsEmptyRange order r
        → range_measure order len distance r ≡ Some n → IsGap (lower order r) (upper order r) n
    range_gap r n known full e =
        let told =
        bounds_gap (closed_by order.least r.start) (closed_by order.greatest r.end) n
        (told_known order lawful order.least r.start lawful.least_key known.0)
        (told_known order lawful order.greatest r.end lawful.greatest_key known.1)
        (told_reach order lawful r full)
        (sym (full_measure order lawful len distance r full) ∙ e) in
        subst (λ p. IsGap p (upper order r) n) (told_start order lawful r.start)
        (subst (λ q. IsGap (start_position order (closed_by order.least r.start)) q n)
        (ap (past order) (told_end order lawful r.end)) told)

    first_place : (s : AnyRange K) (ranges : List (AnyRange K)) (n : ℕ)
        → AreInOrder order (s ∷ ranges) → list_measure order len distance (s ∷ ranges) ≡ Some n
        → IsPlace order lawful len distance measured (lower order s)
    first_place s ranges n h e = grind (arith, first_known, range_gap)

    -- a place up to which the ranges reach
    Reaches : AnyRange K → ℕ → Type 0
    Reaches r n =
        (q : Position K) × IsPlace order lawful len distance measured q
        × Le (position_cmp order.cmp) (lower order r) q
        × (n ≤ gap order lawful len distance measured (lower order r) q)

    reach_of : (r : AnyRange K) (ranges : List (AnyRange K)) (n : ℕ) → AreInOrder order (r ∷ ranges)
        → list_measure order len distance (r ∷ ranges) ≡ Some n → Reaches r n
    unfolding Reaches
    reach_of r [] n h e =
        let parts = sum_parts (range_measure order len distance r) (Some 0) n e in
        let own = range_gap r parts.0 h.0 h.1 parts.2 in
        let up = ends_after r.start r.end h.0.0 h.0.1 (not_greater _ h.1) in
        let none : 0 ≡ parts.1 = let f = parts.3 in cc in
        let sum = parts.4 in
        let much = own.much in
        (upper order r, own.high, up, omega arith)
    reach_of r (s ∷ ranges) n h e =
        let total = position_total order.cmp lawful.total in
        let parts =
        sum_parts (range_measure order len distance r)
        (list_measure order len distance (s ∷ ranges)) n e in
        let own = range_gap r parts.0 h.0 h.1 parts.2 in
        let others = reach_of s ranges parts.1 h.3 parts.3 in
        let start = first_place s ranges parts.1 h.3 parts.3 in
        let up = ends_after r.start r.end h.0.0 h.0.1 (not_greater _ h.1) in
        let beside = before_is_below r s h.0 (first_known s ranges h.3).0 h.2 in
        let over = upto total _ _ _ up beside in
        let first = gap_adds order lawful len distance measured _ _ _ own.low own.high start up beside in
        let whole =
        gap_adds order lawful len distance measured _ _ _ own.low start others.1 over others.2 in
        let sum = parts.4 in
        let much = own.much in
        let more = others.3 in
        (others.0, others.1, upto total _ _ _ over others.2, omega arith)

    -- the measures of ranges in order add up to less than 2 ^ 128
    pub list_measure_fits : (ranges : List (AnyRange K)) (n : ℕ) → AreInOrder order ranges
        → list_measure order len distance ranges ≡ Some n → n < 2 ^ 128
    unfolding Reaches
    list_measure_fits [] n h e = let none : 0 ≡ n = cc in subst (λ k. k < 2 ^ 128) none (lit< tt)
    list_measure_fits (r ∷ ranges) n h e = search (rules, reach_of, gap_fits, first_place)

both_there : (P Q R : ℕ → Type 0) (o p : Option ℕ) → IsSomeAnd o P → IsSomeAnd p Q
    → ((m n : ℕ) → P m → Q n → R (m + n)) → IsSomeAnd (measure_sum o p) R
both_there P Q R o p h k f = grind arith

module _ {K : Type 0} (order : KeyOrder K) (len : K → ℕ) (distance : K → K → ℕ)
    (counts : IsCountedMeasure order len distance) where
  -- over counted keys the measures of ranges in order add up to the number of their keys
  pub list_measure_is_number : (ranges : List (AnyRange K)) → AreInOrder order ranges
      → IsSomeAnd (list_measure order len distance ranges)
      (IsNumberOfKeys order (λ k. Any (λ r. Holds order r k) ranges))
  list_measure_is_number [] h = number_none order counts.counted.total (λ k. ⊥) (λ k key e. e)
  list_measure_is_number (r ∷ ranges) h =
      let lawful = counted_lawful counts.counted in
      both_there _ _ _ (range_measure order len distance r) (list_measure order len distance ranges)
      (measure_is_number order len distance counts r (first_known order lawful r ranges h).0)
      (list_measure_is_number ranges (rest_in_order order lawful r ranges h))
      (λ m n f g. number_both order counts.counted.total (Holds order r)
      (λ k. Any (λ s. Holds order s k) ranges) m n
      (λ a b key key' p q. below_all order lawful r ranges a b h key key' p q) f g)
