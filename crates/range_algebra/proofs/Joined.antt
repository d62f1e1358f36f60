-- Over complete keys two nonempty ranges, the one before the other, touch exactly where no key lies
-- between.
use Rattle.std.proofs.Common.{◌≡◌, sym, ap, inl, inr, ◌∙◌, Bool, false, IsTrue, ◌↔◌, arith}
use Rattle.std.specs.declared.cmp.Ordering.TheVariants.{Less}
use Rattle.std.specs.Ordering.{is_gt}
use Rattle.std.specs.Cmp.{upto}
use Rattle.range_keys.specs.Order.{KeyOrder, IsLawful, IsComplete, Below}
use Rattle.range_keys.specs.Position.{start_position, end_position, position_cmp}
use Rattle.range_keys.specs.PositionOrder.{position_total}
use Rattle.range_keys.specs.declared.inner.position.Position.TheVariants.{Beside}
use Rattle.range_keys.specs.declared.inner.position.Side.TheVariants.{At}
use Rattle.range_keys.proofs.Orderings.{less_unless_equal, not_greater}
use Rattle.range_algebra.specs.Orders.{le_refl, lt_not_le, not_le, cases, lt_le_trans, le_lt_trans}
use Rattle.range_algebra.proofs.Pieces.{start_up, end_down}
use Rattle.range_algebra.specs.Range.{Holds, IsKeyRange, IsEmptyRange}
use Rattle.range_algebra.specs.declared.any.AnyRange.{AnyRange}
use Rattle.range_algebra.specs.declared.ordering.RangeOrdering.TheVariants.{Before, After}
use Rattle.range_algebra.specs.Compared.{range_ordering, is_before, is_after, starts_at_end}
use Rattle.range_algebra.proofs.Holding.{holds_by_position}
use Rattle.range_algebra.proofs.Completeness.{nonempty_holds}
use Rattle.range_algebra.proofs.Canonical.{NotPast, IsBefore, KeyFrom}
use Rattle.range_algebra.proofs.Meeting.{read_before, write_before, write_after, told_before, told_after, gap_apart, between_places, touch_or_key}
use Rattle.range_algebra.specs.Relations.{AreBelow, AreJoined, LiesBefore, Touches}

module _ {K : Type 0} (order : KeyOrder K) (lawful : IsLawful order) where
  pub before_is : (r s : AnyRange K) (same : Bool)
      → IsTrue (is_before (range_ordering order r s) same)
      → LiesBefore order r s × (IsTrue same → Touches order r s → ⊥)
  before_is r s same e =
      read_before (position_total order.cmp lawful.total) _ _ _ _ _ _ _ _ _ _ same e

  -- a range that ends before another starts lies below it
  pub ends_below : (r s : AnyRange K) → LiesBefore order r s → AreBelow order r s
  ends_below r s e a b key key' h g =
      let total = position_total order.cmp lawful.total in
      less_unless_equal (order.cmp a b)
      (lt_le_trans _ total (Beside a At) _ (Beside b At)
      (le_lt_trans _ total (Beside a At) _ _ ((holds_by_position order lawful r a key).0 h).1 e)
      ((holds_by_position order lawful s b key').0 g).0)

module _ {K : Type 0} (order : KeyOrder K) (lawful : IsLawful order) (complete : IsComplete order)
    (r s : AnyRange K) (known : IsKeyRange order r) (others : IsKeyRange order s) (y z : K)
    (key : order.is_key y) (key' : order.is_key z) (here : Holds order r y)
    (there : Holds order s z) (below : AreBelow order r s) where
  not_below_itself : (k : K) → Below order k k → ⊥
  not_below_itself k h = lt_not_le order.cmp lawful.total k k h (le_refl order.cmp lawful.total k)

  -- no key is in both, as one that the start of the second and the end of the first hold would be
  start_is_after_end : is_gt
      (position_cmp order.cmp (start_position order s.start) (end_position order r.end)) ≡ false → ⊥
  start_is_after_end e =
      let t : AnyRange K = record { start = s.start; end = r.end } in
      let (k, known', held) = nonempty_holds order lawful complete t (others.0, known.1) e in
      elim (cases order.cmp lawful.total k y) [
        | inl under ↦
            not_below_itself y (below y y key key here (
              start_up order lawful s.start k y (ap is_gt under) held.0,
              end_down order lawful s.end y z (ap is_gt (below y z key key' here there)) there.1,
            ))
        | inr over ↦
            let own : Holds order r k = (start_up order lawful r.start y k over here.0, held.1) in
            not_below_itself k (below k k known' known' own (
              held.0,
              end_down order lawful s.end k z (ap is_gt (below k z known' key' own there)) there.1,
            ))
      ]

  -- over complete keys a range that lies below another ends before it starts
  pub below_ends : LiesBefore order r s
  below_ends = not_le _ (position_total order.cmp lawful.total) _ _ start_is_after_end

  starts_less : position_cmp order.cmp (start_position order r.start) (start_position order s.start)
      ≡ Less
  starts_less =
      let total = position_total order.cmp lawful.total in
      let within = (holds_by_position order lawful r y key).0 here in
      not_le _ total _ _ (λ back.
      start_is_after_end (upto total _ _ _ back (upto total _ (Beside y At) _ within.0 within.1)))

  -- and if they touch they are joined
  pub touch_joined : Touches order r s → AreJoined order r s
  touch_joined t =
      let within = (holds_by_position order lawful s z key').0 there in
      let full = upto (position_total order.cmp lawful.total) _ (Beside z At) _ within.0 within.1 in (
        below,
        λ k known' between. (gap_apart order lawful r s k known others full known' (
          λ g. not_below_itself k (between.0 k known'
              (start_up order lawful r.start y k (ap is_gt (between.0 y key here)) here.0, g)),
          λ g. not_below_itself k (between.1 k known'
              (g, end_down order lawful s.end k z (ap is_gt (between.1 z key' there)) there.1)),
        )).1 t,
      )

  -- and stands before it, apart where their values are equal and the ranges are not joined
  pub is_before_of : (same : Bool) → (AreJoined order r s → IsTrue same → ⊥)
      → IsTrue (is_before (range_ordering order r s) same)
  is_before_of same parted =
      write_before (position_total order.cmp lawful.total) _ _ _ _ _ _ _ _ _ _ same starts_less
      below_ends (λ e touching. parted (touch_joined touching) e)

module _ {K : Type 0} (order : KeyOrder K) (lawful : IsLawful order) where
  -- a comparison that says before, or after, says that the keys of the one are below those of the
  -- other
  pub before_below : (r s : AnyRange K) (t : Bool) → range_ordering order r s ≡ Before t
      → AreBelow order r s
  before_below r s t e =
      ends_below order lawful r s
      (told_before (position_total order.cmp lawful.total) _ _ _ _ _ _ _ _ _ _ t e).0

  pub after_below : (r s : AnyRange K) (t : Bool) → range_ordering order r s ≡ After t
      → AreBelow order s r
  after_below r s t e =
      ends_below order lawful s r
      (told_after (position_total order.cmp lawful.total) _ _ _ _ _ _ _ _ _ _ t e).0

  module _ (complete : IsComplete order) where
    filled_range_has_key : (r : AnyRange K) → IsKeyRange order r → ¬ IsEmptyRange order r
        → (k : K) × order.is_key k × Holds order r k
    filled_range_has_key r known full = grind (arith, nonempty_holds)

    pub joined_touch : (r s : AnyRange K) → IsKeyRange order r → IsKeyRange order s
        → (¬ IsEmptyRange order r) → (¬ IsEmptyRange order s) → AreJoined order r s
        → Touches order r s
    unfolding NotPast IsBefore KeyFrom
    joined_touch r s known others full full' joined =
        let y = filled_range_has_key r known full in
        let z = filled_range_has_key s others full' in
        elim (touch_or_key order lawful complete r s known others (not_greater _ full')
        (below_ends order lawful complete r s known others y.0 z.0 y.1 z.1 y.2 z.2 joined.0)) [
          | inl t ↦ t
          | inr (k, key, from, upto) ↦
              absurd (joined.1 k key (between_places order lawful r s known others k from upto))
        ]

    -- the flag of one that ends before the other says whether they are joined
    flag_joined : (r s : AnyRange K) → IsKeyRange order r → IsKeyRange order s
        → (¬ IsEmptyRange order r) → (¬ IsEmptyRange order s) → LiesBefore order r s → (t : Bool)
        → starts_at_end order r.end (start_position order s.start) ≡ t → IsTrue t
        ↔ AreJoined order r s
    flag_joined r s known others full full' before t e =
        let y = filled_range_has_key r known full in
        let z = filled_range_has_key s others full' in (
          λ touching. touch_joined order lawful complete r s known others y.0 z.0 y.1 z.1 y.2 z.2
              (ends_below order lawful r s before) (e ∙ touching),
          λ joined. sym e ∙ joined_touch r s known others full full' joined,
        )

    pub before_joined : (r s : AnyRange K) → IsKeyRange order r → IsKeyRange order s
        → (¬ IsEmptyRange order r) → (¬ IsEmptyRange order s) → (t : Bool)
        → range_ordering order r s ≡ Before t → IsTrue t ↔ AreJoined order r s
    before_joined r s known others full full' t e =
        let told = told_before (position_total order.cmp lawful.total) _ _ _ _ _ _ _ _ _ _ t e in
        flag_joined r s known others full full' told.0 t told.1

    pub after_joined : (r s : AnyRange K) → IsKeyRange order r → IsKeyRange order s
        → (¬ IsEmptyRange order r) → (¬ IsEmptyRange order s) → (t : Bool)
        → range_ordering order r s ≡ After t → IsTrue t ↔ AreJoined order s r
    after_joined r s known others full full' t e =
        let told = told_after (position_total order.cmp lawful.total) _ _ _ _ _ _ _ _ _ _ t e in
        flag_joined s r others known full' full told.0 t told.1

    -- and nonempty ranges of which the one is below the other are compared so
    pub below_before : (r s : AnyRange K) → IsKeyRange order r → IsKeyRange order s
        → (¬ IsEmptyRange order r) → (¬ IsEmptyRange order s) → AreBelow order r s
        → IsTrue (is_before (range_ordering order r s) false)
    below_before r s known others full full' below =
        let y = filled_range_has_key r known full in
        let z = filled_range_has_key s others full' in
        is_before_of order lawful complete r s known others y.0 z.0 y.1 z.1 y.2 z.2 below false
        (λ joined e. cc)

    pub below_after : (r s : AnyRange K) → IsKeyRange order r → IsKeyRange order s
        → (¬ IsEmptyRange order r) → (¬ IsEmptyRange order s) → AreBelow order s r
        → IsTrue (is_after (range_ordering order r s) false)
    below_after r s known others full full' below =
        let y = filled_range_has_key r known full in
        let z = filled_range_has_key s others full' in
        write_after (position_total order.cmp lawful.total) _ _ _ _ _ _ _ _ _ _
        (starts_less order lawful complete s r others known z.0 y.0 z.1 y.1 z.2 y.2 below)
        (below_ends order lawful complete s r others known z.0 y.0 z.1 y.1 z.2 y.2 below)
