-- When ranges intersect, and when they are connected, by the keys that they hold.
use Rattle.std.proofs.Common.{◌≡◌, refl, sym, ap, ◌∙◌, ◌↔◌, true, false, Bool, Some, IsTrue, ◌⊎◌, inl, inr, if◌then◌else◌, arith}
use Rattle.std.specs.declared.ops.Bound.{Bound}
use Rattle.std.specs.declared.ops.Bound.TheVariants.{Included, Excluded, Unbounded}
use Rattle.std.specs.declared.cmp.Ordering.{Ordering}
use Rattle.std.specs.Ordering.{is_lt, is_gt}
use Rattle.range_keys.specs.Order.{KeyOrder, IsLawful, IsComplete, Below}
use Rattle.range_keys.specs.Position.{start_position, end_position, position_cmp}
use Rattle.range_keys.specs.PositionOrder.{position_total}
use Rattle.range_keys.specs.declared.inner.position.Position.{Position}
use Rattle.range_keys.specs.declared.inner.position.Position.TheVariants.{Beside}
use Rattle.range_keys.specs.declared.inner.position.Side.TheVariants.{At}
pub use Rattle.range_keys.proofs.Orderings.{not_greater}
use Rattle.range_keys.proofs.Orderings.{eq_is_equal, less_unless_equal}
use Rattle.range_keys.proofs.BoundPositions.{IsStart, IsEnd, excluded_start_is_one, starts_lie_at_starts, ends_lie_at_ends}
use Rattle.range_algebra.specs.declared.any.AnyRange.{AnyRange}
use Rattle.range_algebra.specs.declared.ordering.RangeOrdering.{RangeOrdering}
use Rattle.range_algebra.specs.declared.ordering.RangeOrdering.TheVariants as lying
use Rattle.range_algebra.specs.Intervals.{Le, Lt}
use Rattle.range_algebra.specs.Orders.{le_refl, eq_ge, lt_not_le, cases, not_le, not_lt, lt_le_trans, both}
use Rattle.range_algebra.specs.Range.{IsEmptyRange, StartHolds, EndHolds, Holds, IsBoundOfKey, IsKeyRange}
use Rattle.range_algebra.specs.Compared.{flipped, start_is_at, starts_at_end, range_ordering, matches, is_before, is_after}
use Rattle.range_algebra.specs.Combined.{earlier_end, common}
use Rattle.range_algebra.specs.Cuts.{past, lower, upper}
use Rattle.range_algebra.specs.Relations.{LiesBetween, Meets, ShareKey, AreConnected}
use Rattle.range_algebra.proofs.Holding.{start_holds, end_holds, holds_by_position}
use Rattle.range_algebra.proofs.Positions.{held_between, reaching_is_before_past, key_reaches, flipped_bound_is_past, unbounded_end}
use Rattle.range_algebra.proofs.Completeness.{nonempty_holds}
use Rattle.range_algebra.proofs.Canonical.{NotPast, IsBefore, KeyFrom, key_from}
use Rattle.range_algebra.proofs.Commons.{later_is, earlier_is, common_holds, common_known}
use Rattle.range_algebra.proofs.Pieces.{start_decided, end_decided, start_up, end_down}
use Rattle.std.specs.Cmp.{IsTotalOrder, upto}

-- what a comparison of two intervals says
module _ {L : Type 0} {cmp : L → L → Ordering} (total : IsTotalOrder cmp) (s e s' e' : L)
    (t u x y z w : Bool) where
  abbrev pub Compared : RangeOrdering
  Compared =
      if is_lt (cmp s s')
      then (if is_lt (cmp e s') then lying.Before t else lying.Intersecting x y)
      else (if is_gt (cmp s e') then lying.After u else lying.Intersecting z w)

  pub told_before : (f : Bool) → Compared ≡ lying.Before f → Lt cmp e s' × (t ≡ f)
  told_before f h = grind arith

  pub told_after : (f : Bool) → Compared ≡ lying.After f → Lt cmp e' s × (u ≡ f)
  told_after f h = grind arith

  pub read_before : (c : Bool) → IsTrue (is_before Compared c)
      → Lt cmp e s' × (IsTrue c → IsTrue t → ⊥)
  read_before c h = grind arith

  pub write_before : (c : Bool) → Lt cmp s s' → Lt cmp e s' → (IsTrue c → IsTrue t → ⊥)
      → IsTrue (is_before Compared c)
  write_before c h k f = grind arith

  pub write_after : Lt cmp s' s → Lt cmp e' s → IsTrue (is_after Compared false)
  write_after h k = grind arith

  -- where the intervals are nonempty
  module _ (full : Le cmp s e) (full' : Le cmp s' e') where
    answers_met : IsTrue (matches Compared false) ↔ (Le cmp s e' × Le cmp s' e)
    answers_met = grind arith

    answers_connected : IsTrue (matches Compared true)
        ↔ ((Lt cmp e s' → IsTrue t) × (Lt cmp e' s → IsTrue u))
    answers_connected = grind arith

-- of two ranges with keys on both sides of one, the one holds it, or the other does
one_holds : {A B C D : Type 0} → A ⊎ (¬ A) → B ⊎ (¬ B) → C ⊎ (¬ C) → D ⊎ (¬ D) → A ⊎ C → B ⊎ D
    → (¬ B → ¬ C → ⊥) → (¬ D → ¬ A → ⊥) → (A × B) ⊎ (C × D)
one_holds a b c d from upto h g = grind arith

module _ {K : Type 0} (order : KeyOrder K) (lawful : IsLawful order) where
  abbrev PLt : Position K → Position K → Type 0
  PLt p q = Lt (position_cmp order.cmp) p q

  abbrev PLe : Position K → Position K → Type 0
  PLe p q = Le (position_cmp order.cmp) p q

  abbrev Full : AnyRange K → Type 0
  Full r = PLe (start_position order r.start) (end_position order r.end)

  -- an end lies before a start where the place past it is at most that start
  pub before_is : (e s : Bound K) → IsBoundOfKey order e → IsBoundOfKey order s
      → PLt (end_position order e) (start_position order s)
      ↔ PLe (past order (end_position order e)) (start_position order s)
  before_is e s known others =
      let total = position_total order.cmp lawful.total in
      let reach = reaching_is_before_past order lawful s e others known in (
        λ h. not_lt _ total _ _ (λ k. lt_not_le _ total _ _ h (reach.1 k)),
        λ h. not_le _ total _ _ (λ k. lt_not_le _ total _ _ (reach.0 k) h),
      )

  touches_by : (e i : Bound K) (s : AnyRange K) → flipped e ≡ Some i
      → PLe (past order (end_position order e)) (lower order s)
      → IsTrue (start_is_at order (Some i) (lower order s))
      ↔ PLe (lower order s) (past order (end_position order e))
  touches_by e i s turns le =
      let total = position_total order.cmp lawful.total in
      let at = flipped_bound_is_past order lawful e i turns in
      let other = eq_is_equal (position_cmp order.cmp (start_position order i) (lower order s)) in (
        λ h. upto total _ _ _ (eq_ge _ total _ _ (other.0 h)) (eq_ge _ total _ _ at),
        λ h. other.1 (sym (total.congr _ _ _ at) ∙ both _ total _ _ le h),
      )

  -- a nonempty range starts where an end ends that lies before it, where the place past that end is
  -- at least its start
  pub touches_is : (e : Bound K) (s : AnyRange K) → IsKeyRange order s → Full s
      → PLe (past order (end_position order e)) (lower order s)
      → IsTrue (starts_at_end order e (lower order s))
      ↔ PLe (lower order s) (past order (end_position order e))
  touches_is (Included a) s known full le = touches_by (Included a) (Excluded a) s refl le
  touches_is (Excluded a) s known full le = touches_by (Excluded a) (Included a) s refl le
  touches_is Unbounded s known full le =
      let total = position_total order.cmp lawful.total in
      let good = (reaching_is_before_past order lawful s.start s.end known.0 known.1).0 full in (
        λ h. absurd (cc),
        λ h.
            absurd (lt_not_le _ total _ _ good
            (upto total _ _ _ (unbounded_end order lawful s.end known.1) le)),
      )

  module _ (r s : AnyRange K) (full : ¬ IsEmptyRange order r) (full' : ¬ IsEmptyRange order s) where
    -- two nonempty ranges intersect where neither lies before the other
    pub meets_is : IsTrue (matches (range_ordering order r s) false)
        ↔ (PLe (start_position order r.start) (end_position order s.end)
        × PLe (start_position order s.start) (end_position order r.end))
    meets_is =
        answers_met (position_total order.cmp lawful.total) _ _ _ _ _ _ _ _ _ _ (not_greater _ full)
        (not_greater _ full')

    -- where an answer says that neither lies before the other, it says that they intersect
    pub meets_by : (t : Bool) → IsTrue t
        ↔ (PLe (start_position order r.start) (end_position order s.end)
        × PLe (start_position order s.start) (end_position order r.end)) → IsTrue t
        ↔ Meets order r s
    meets_by t h = (λ e. meets_is.1 (h.0 e), λ m. h.1 (meets_is.0 m))

    -- a key in both shows that they intersect
    share_meets : ShareKey order r s
        → PLe (start_position order r.start) (end_position order s.end)
        × PLe (start_position order s.start) (end_position order r.end)
    share_meets (k, key, h, g) =
        let total = position_total order.cmp lawful.total in
        let own = (holds_by_position order lawful r k key).0 h in
        let other = (holds_by_position order lawful s k key).0 g in
        (upto total _ _ _ own.0 other.1, upto total _ _ _ other.0 own.1)

    module _ (complete : IsComplete order) (known : IsKeyRange order r)
        (others : IsKeyRange order s) where
      meets_share : PLe (start_position order r.start) (end_position order s.end)
          × PLe (start_position order s.start) (end_position order r.end) → ShareKey order r s
      meets_share h =
          let room =
          later_is order lawful r.start s.start
          (λ x. PLe (start_position order x)
          (end_position order (earlier_end order r.end s.end)))
          (earlier_is order lawful r.end s.end
          (λ y. PLe (start_position order r.start) (end_position order y)) (not_greater _ full) h.0)
          (earlier_is order lawful r.end s.end
          (λ y. PLe (start_position order s.start) (end_position order y)) h.1 (not_greater _ full')) in
          let found =
          nonempty_holds order lawful complete (common order r s)
          (common_known order lawful r s known others) room in
          let held = (common_holds order lawful r s found.0 found.1).0 found.2 in
          (found.0, found.1, held.0, held.1)

      -- over complete keys two nonempty ranges intersect exactly where some key is in both
      pub intersects_is : IsTrue (matches (range_ordering order r s) false) ↔ ShareKey order r s
      intersects_is = (λ h. meets_share (meets_is.0 h), λ h. meets_is.1 (share_meets h))

      -- and so says each such answer
      pub shares_by : (t : Bool) → IsTrue t
          ↔ (PLe (start_position order r.start) (end_position order s.end)
          × PLe (start_position order s.start) (end_position order r.end)) → IsTrue t
          ↔ ShareKey order r s
      shares_by t h = (λ e. meets_share (h.0 e), λ k. h.1 (share_meets k))

  pub held_or_not : (r : AnyRange K) (k : K) → Holds order r k ⊎ (¬ Holds order r k)
  held_or_not r k = grind arith

  -- the key lies past the end of the one and before the start of the other
  abbrev Gap : AnyRange K → AnyRange K → K → Type 0
  Gap r s k = (¬ EndHolds order r.end k) × (¬ StartHolds order s.start k)

  -- where there is such a key the one lies before the other, and they do not touch
  pub gap_apart : (r s : AnyRange K) (k : K) → IsKeyRange order r → IsKeyRange order s → Full s
      → order.is_key k → Gap r s k
      → PLt (end_position order r.end) (start_position order s.start)
      × (IsTrue (starts_at_end order r.end (start_position order s.start)) → ⊥)
  gap_apart r s k known others full key h =
      let total = position_total order.cmp lawful.total in
      let less : PLt (upper order r) (lower order s) =
      not_le _ total _ _ (λ le.
      h.1 ((start_holds order lawful s.start k key).1 (upto total _ _ _ le
      (not_lt _ total _ _ (λ l.
      h.0 ((end_holds order lawful r.end k key).1
      ((key_reaches order lawful k r.end key known.1).1 l))))))) in
      let le = ap is_gt less in (
        (before_is r.end s.start known.1 others.0).1 le,
        λ t. lt_not_le _ total _ _ less ((touches_is r.end s others full le).0 t),
      )

  -- with no such key they touch
  pub past_is_start : (e q : Position K) (complete : IsComplete order) → IsEnd order e
      → PLt (past order e) q → IsStart order (past order e)
  unfolding IsStart IsEnd
  past_is_start e q complete h l = grind (arith, excluded_start_is_one)

  -- a key from the place past the one on, before the start of the other, lies between their keys
  pub between_places : (r s : AnyRange K) → IsKeyRange order r → IsKeyRange order s → (k : K)
      → PLe (upper order r) (Beside k At) → PLt (Beside k At) (lower order s)
      → LiesBetween order r s k
  between_places r s known others k from upto = let total = position_total order.cmp lawful.total in (
    λ a key h. less_unless_equal (order.cmp a k)
        (lt_le_trans _ total (Beside a At) _ (Beside k At)
        ((held_between order lawful r a known key).0 h).1 from),
    λ b key h. less_unless_equal (order.cmp k b)
        (lt_le_trans _ total (Beside k At) _ (Beside b At) upto
        ((held_between order lawful s b others key).0 h).0),
  )

  module _ (complete : IsComplete order) (r s : AnyRange K) (known : IsKeyRange order r)
      (others : IsKeyRange order s) where
    -- one that lies before the other touches it, or a key lies between their places
    pub touch_or_key : Full s → PLt (end_position order r.end) (start_position order s.start)
        → IsTrue (starts_at_end order r.end (start_position order s.start))
        ⊎ KeyFrom order lawful complete (upper order r) (lower order s)
    unfolding NotPast IsBefore KeyFrom
    touch_or_key full l =
        let le = (before_is r.end s.start known.1 others.0).0 l in
        elim (cases _ (position_total order.cmp lawful.total) (upper order r) (lower order s)) [
          | inl room ↦
              inr (key_from order lawful complete (upper order r) (lower order s)
              (past_is_start (end_position order r.end) (lower order s) complete
              (ends_lie_at_ends order lawful r.end known.1) room)
              (starts_lie_at_starts order lawful s.start others.0) room)
          | inr at ↦ inl ((touches_is r.end s others full le).1 at)
        ]

    connected_ranges_touch : Full r → Full s
        → PLt (end_position order r.end) (start_position order s.start) → AreConnected order r s
        → IsTrue (starts_at_end order r.end (start_position order s.start))
    unfolding NotPast IsBefore KeyFrom
    connected_ranges_touch full full' l connected = elim (touch_or_key full' l) [
      | inl t ↦ t
      | inr (k, key, from, upto) ↦
          let low = nonempty_holds order lawful complete r known full in
          let high = nonempty_holds order lawful complete s others full' in
          let between = between_places r s known others k from upto in
          let never : Below order k k =
          elim (connected low.0 high.0 k low.1 high.1 key (inl low.2) (inr high.2)
          (between.0 low.0 low.1 low.2) (between.1 high.0 high.1 high.2)) [
            | inl h ↦ between.0 k key h
            | inr h ↦ between.1 k key h
          ] in
          absurd (lt_not_le order.cmp lawful.total k k never (le_refl order.cmp lawful.total k))
    ]

  swap_connected : (r s : AnyRange K) → AreConnected order r s → AreConnected order s r
  swap_connected r s h a b k key key' key'' held held' l l' = grind arith

  module _ (r s : AnyRange K) (known : IsKeyRange order r) (others : IsKeyRange order s)
      (full : ¬ IsEmptyRange order r) (full' : ¬ IsEmptyRange order s) where
    connects_is : IsTrue (matches (range_ordering order r s) true)
        ↔ ((PLt (end_position order r.end) (start_position order s.start)
        → IsTrue (starts_at_end order r.end (start_position order s.start)))
        × (PLt (end_position order s.end) (start_position order r.start)
        → IsTrue (starts_at_end order s.end (start_position order r.start))))
    connects_is =
        answers_connected (position_total order.cmp lawful.total) _ _ _ _ _ _ _ _ _ _ (not_greater _ full)
        (not_greater _ full')

    -- no key between keys of connected ranges is outside both
    pub connected_holds : IsTrue (matches (range_ordering order r s) true) → AreConnected order r s
    connected_holds e a b k key key' key'' held held' l u =
        let from =
        λ (x : AnyRange K) (h : Holds order x a). start_up order lawful x.start a k (ap is_gt l) h.0
        in
        let upto =
        λ (x : AnyRange K) (h : Holds order x b). end_down order lawful x.end k b (ap is_gt u) h.1
        in
        one_holds (start_decided order lawful r.start k) (end_decided order lawful r.end k)
        (start_decided order lawful s.start k) (end_decided order lawful s.end k)
        (elim held [ inl h ↦ inl (from r h) | inr h ↦ inr (from s h) ])
        (elim held' [ inl h ↦ inl (upto r h) | inr h ↦ inr (upto s h) ])
        (λ g h. let gap = gap_apart r s k known others (not_greater _ full') key'' (g, h) in
        gap.1 ((connects_is.0 e).0 gap.0))
        (λ g h. let gap = gap_apart s r k others known (not_greater _ full) key'' (g, h) in
        gap.1 ((connects_is.0 e).1 gap.0))

    -- over complete keys that says that they are connected
    pub holds_connected : IsComplete order → AreConnected order r s
        → IsTrue (matches (range_ordering order r s) true)
    holds_connected complete h =
        connects_is.1 (
          λ l. connected_ranges_touch complete r s known others (not_greater _ full)
              (not_greater _ full') l h,
          λ l. connected_ranges_touch complete s r others known (not_greater _ full')
              (not_greater _ full) l (swap_connected r s h),
        )
