-- Over complete keys two nonempty ranges that hold the same keys have equal bounds.
use Rattle.std.proofs.Common.{◌≡◌, refl, sym, ap, ◌∙◌, false, inl, inr, arith, rules}
use Rattle.std.specs.declared.cmp.Ordering.TheVariants.{Less, Equal}
use Rattle.std.specs.Ordering.{is_gt}
use Rattle.std.specs.Cmp.{alike_right, tied_itself, upto}
use Rattle.range_keys.specs.Order.{KeyOrder, IsLawful, IsComplete}
use Rattle.range_keys.specs.Position.{start_position, end_position, position_cmp}
use Rattle.range_keys.specs.PositionOrder.{position_total}
use Rattle.range_keys.specs.declared.inner.position.Position.{Position}
use Rattle.range_keys.specs.declared.inner.position.Position.TheVariants.{MinusInfinity, Beside, PlusInfinity}
use Rattle.range_keys.specs.declared.inner.position.Side.TheVariants.{Before, At, After}
use Rattle.range_keys.proofs.Orderings.{both_equal, not_greater, less_unless_greater}
use Rattle.range_keys.proofs.BoundPositions.{IsStart, IsEnd, starts_lie_at_starts, ends_lie_at_ends}
use Rattle.range_algebra.specs.Range.{Holds, HoldSame, IsEmptyRange, IsKeyRange}
use Rattle.range_algebra.specs.declared.any.AnyRange.{AnyRange}
use Rattle.range_algebra.specs.RangeOrder.{range_cmp, range_total}
use Rattle.range_algebra.proofs.Holding.{holds_by_position}
use Rattle.range_algebra.specs.Orders.{lt_not_le, not_lt, both}
use Rattle.range_algebra.proofs.Completeness.{no_pred, nonempty_holds}

module _ {K : Type 0} (order : KeyOrder K) (lawful : IsLawful order)
    (complete : IsComplete order) where
  unfoldable pub NotPast : Position K → Position K → Type 0
  NotPast p q = is_gt (position_cmp order.cmp p q) ≡ false

  unfoldable pub IsBefore : Position K → Position K → Type 0
  IsBefore p q = position_cmp order.cmp p q ≡ Less

  -- a key from the first place on, before the second
  unfoldable pub KeyFrom : Position K → Position K → Type 0
  KeyFrom p q = (k : K) × order.is_key k × NotPast p (Beside k At) × IsBefore (Beside k At) q

  pub key_from : (p q : Position K) → IsStart order p → IsStart order q → IsBefore p q → KeyFrom p q
  unfolding IsStart KeyFrom NotPast IsBefore
  key_from (Beside a At) (Beside b At) s t h = search (rules, tied_itself, position_total)
  key_from (Beside a After) (Beside b At) s t h = grind (arith, complete.next)
  key_from MinusInfinity (Beside b At) s t h = grind (arith, complete.below)
  key_from (Beside a x) (Beside b After) s t h = (b, t.0, grind arith, grind arith)
  key_from MinusInfinity (Beside b After) s t h = (b, t.0, refl, grind arith)
  key_from p MinusInfinity s t h = grind arith
  key_from p (Beside b Before) s t h = absurd t
  key_from p PlusInfinity s t h = absurd t
  key_from (Beside a Before) q s t h = absurd s
  key_from PlusInfinity q s t h = absurd s

  -- a key past the first place, up to the second
  KeyTo : Position K → Position K → Type 0
  KeyTo p q = (k : K) × order.is_key k × IsBefore p (Beside k At) × NotPast (Beside k At) q

  key_to : (p q : Position K) → IsEnd order p → IsEnd order q → IsBefore p q → KeyTo p q
  unfolding IsEnd KeyTo NotPast IsBefore
  key_to (Beside a At) (Beside b At) s t h = search (rules, tied_itself, position_total)
  key_to (Beside a At) (Beside b Before) s t h = (
      let next = complete.next a b s t.0 ((less_unless_greater (order.cmp a b)).0 h) in
      elim next [ inl u ↦ absurd (no_pred order lawful complete a b _ refl u t.1) | inr u ↦ (u.0, u.1, grind arith, grind arith) ])
  key_to (Beside a At) PlusInfinity s t h = grind (arith, complete.above)
  key_to (Beside a Before) (Beside b x) s t h = (a, s.0, grind arith, grind arith)
  key_to (Beside a Before) PlusInfinity s t h = (a, s.0, grind arith, refl)
  key_to PlusInfinity q s t h = grind arith
  key_to p (Beside b After) s t h = absurd t
  key_to p MinusInfinity s t h = absurd t
  key_to (Beside a After) q s t h = absurd s
  key_to MinusInfinity q s t h = absurd s

  module _ (r s : AnyRange K) (known : IsKeyRange order r) (others : IsKeyRange order s)
      (full : IsEmptyRange order s → ⊥) (same : HoldSame order r s) where
    -- the start of r is not before that of s
    start_not_before : IsBefore (start_position order r.start) (start_position order s.start) → ⊥
    unfolding NotPast IsBefore KeyFrom
    start_not_before h =
        let total = position_total order.cmp lawful.total in
        let found =
        key_from _ _ (starts_lie_at_starts order lawful r.start known.0)
        (starts_lie_at_starts order lawful s.start others.0) h in
        let member = nonempty_holds order lawful complete s others (not_greater _ full) in
        let inside = (holds_by_position order lawful s member.0 member.1).0 member.2 in
        let shared =
        (holds_by_position order lawful r member.0 member.1).0
        ((same member.0 member.1).1 member.2) in
        let below =
        upto total (Beside found.0 At) _ (Beside member.0 At) (ap is_gt found.3) inside.0 in
        let ends = upto total (Beside found.0 At) (Beside member.0 At) _ below shared.1 in
        let held = (holds_by_position order lawful r found.0 found.1).1 (found.2, ends) in
        let back =
        (holds_by_position order lawful s found.0 found.1).0
        ((same found.0 found.1).0 held) in
        lt_not_le _ total (Beside found.0 At) _ found.3 back.0

    -- the end of s is not before that of r
    end_not_before : IsBefore (end_position order s.end) (end_position order r.end) → ⊥
    unfolding NotPast IsBefore KeyTo
    end_not_before h =
        let total = position_total order.cmp lawful.total in
        let found =
        key_to _ _ (ends_lie_at_ends order lawful s.end others.1)
        (ends_lie_at_ends order lawful r.end known.1) h in
        let member = nonempty_holds order lawful complete s others (not_greater _ full) in
        let inside = (holds_by_position order lawful s member.0 member.1).0 member.2 in
        let shared =
        (holds_by_position order lawful r member.0 member.1).0
        ((same member.0 member.1).1 member.2) in
        let above =
        upto total (Beside member.0 At) _ (Beside found.0 At) inside.1 (ap is_gt found.2) in
        let starts = upto total _ (Beside member.0 At) (Beside found.0 At) shared.0 above in
        let held = (holds_by_position order lawful r found.0 found.1).1 (starts, found.3) in
        let back =
        (holds_by_position order lawful s found.0 found.1).0
        ((same found.0 found.1).0 held) in
        lt_not_le _ total _ (Beside found.0 At) found.2 back.1

  neither_before_is_equal : (p q : Position K) → (IsBefore p q → ⊥) → (IsBefore q p → ⊥)
      → position_cmp order.cmp p q ≡ Equal
  unfolding IsBefore
  neither_before_is_equal p q f g =
      let total = position_total order.cmp lawful.total in
      both _ total p q (not_lt _ total p q g) (not_lt _ total q p f)

  -- nonempty ranges that hold the same keys are equal
  pub same_is_equal : (r s : AnyRange K) → IsKeyRange order r → IsKeyRange order s
      → (IsEmptyRange order r → ⊥) → (IsEmptyRange order s → ⊥) → HoldSame order r s
      → range_cmp order r s ≡ Equal
  same_is_equal r s known others full full' same =
      let back : HoldSame order s r = λ k key. ((same k key).1, (same k key).0) in
      let starts =
      neither_before_is_equal _ _ (start_not_before r s known others full' same)
      (start_not_before s r others known full back) in
      let ends =
      neither_before_is_equal _ _ (end_not_before s r others known full back)
      (end_not_before r s known others full' same) in
      rw starts ends

-- equal ranges hold the same keys
module _ {K : Type 0} (order : KeyOrder K) (lawful : IsLawful order) where
  equal_ranges_hold_alike : (r s : AnyRange K) → range_cmp order r s ≡ Equal → (k : K)
      → order.is_key k → Holds order r k → Holds order s k
  equal_ranges_hold_alike r s e k key h =
      let total = position_total order.cmp lawful.total in
      let both = both_equal _ _ e in
      let within = (holds_by_position order lawful r k key).0 h in
      (holds_by_position order lawful s k key).1 (
        sym (ap is_gt (total.congr _ _ (Beside k At) both.0)) ∙ within.0,
        sym (ap is_gt (alike_right total _ _ (Beside k At) both.1)) ∙ within.1,
      )

  pub equal_is_same : (r s : AnyRange K) → range_cmp order r s ≡ Equal → HoldSame order r s
  equal_is_same r s e k key = grind (arith, equal_ranges_hold_alike, range_total)
