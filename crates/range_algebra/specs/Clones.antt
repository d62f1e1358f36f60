-- Equal bounds have equal positions.
use Rattle.std.specs.Prelude.{◌≡◌, Option, Some, None, refl}
use Rattle.std.specs.declared.ops.Bound.{Bound}
use Rattle.std.specs.declared.ops.Bound.TheVariants.{Included, Excluded, Unbounded}
use Rattle.std.specs.declared.cmp.Ordering.{Ordering}
use Rattle.std.specs.declared.cmp.Ordering.TheVariants.{Equal}
use Rattle.std.specs.Ordering.{ordering_then}
use Rattle.std.specs.Cmp.{tied_itself}
use Rattle.range_keys.specs.Order.{KeyOrder, IsLawful, SameAnswer}
use Rattle.range_keys.specs.Position.{start_position, end_position, position_cmp, at_known}
use Rattle.range_keys.specs.PositionOrder.{position_total}
use Rattle.range_keys.specs.declared.inner.position.Position.{Position}
use Rattle.range_keys.specs.declared.inner.position.Position.TheVariants.{MinusInfinity, Beside, PlusInfinity}
use Rattle.range_keys.specs.declared.inner.position.Side.TheVariants.{Before, After}
use Rattle.range_algebra.specs.RangeOrder.{range_cmp}
use Rattle.range_algebra.specs.declared.any.AnyRange.{AnyRange}

-- both bounds are of one kind, and the value of the second is a clone of that of the first
abbrev pub IsBoundClone : {T : Type 0} → (T → T → Type 0) → Bound T → Bound T → Type 0
IsBoundClone is_clone (Included a) (Included b) = is_clone a b
IsBoundClone is_clone (Excluded a) (Excluded b) = is_clone a b
IsBoundClone is_clone Unbounded Unbounded = Unit {0}
IsBoundClone is_clone (Included a) (Excluded b) = ⊥
IsBoundClone is_clone (Included a) Unbounded = ⊥
IsBoundClone is_clone (Excluded a) (Included b) = ⊥
IsBoundClone is_clone (Excluded a) Unbounded = ⊥
IsBoundClone is_clone Unbounded (Included b) = ⊥
IsBoundClone is_clone Unbounded (Excluded b) = ⊥

-- the value, if there is one, is cloned without fail
abbrev pub IsBoundInfallible : {T : Type 0} → (T → Type 0) → Bound T → Type 0
IsBoundInfallible is_infallible (Included a) = is_infallible a
IsBoundInfallible is_infallible (Excluded a) = is_infallible a
IsBoundInfallible is_infallible Unbounded = Unit {0}

-- the value, if the bound includes one, is cloned without fail
abbrev pub IsIncludedInfallible : {T : Type 0} → (T → Type 0) → Bound T → Type 0
IsIncludedInfallible is_infallible (Included a) = is_infallible a
IsIncludedInfallible is_infallible (Excluded a) = Unit {0}
IsIncludedInfallible is_infallible Unbounded = Unit {0}

-- both bounds are cloned
abbrev pub IsRangeClone : {T : Type 0} → (T → T → Type 0) → AnyRange T → AnyRange T → Type 0
IsRangeClone is_clone r s =
    IsBoundClone is_clone r.start s.start × IsBoundClone is_clone r.end s.end

abbrev pub IsRangeInfallible : {T : Type 0} → (T → Type 0) → AnyRange T → Type 0
IsRangeInfallible is_infallible r =
    IsBoundInfallible is_infallible r.start × IsBoundInfallible is_infallible r.end

-- both bounds are of one kind, with equal values
abbrev pub SameBound : {K : Type 0} → KeyOrder K → Bound K → Bound K → Type 0
SameBound order (Included a) (Included b) = order.cmp a b ≡ Equal
SameBound order (Excluded a) (Excluded b) = order.cmp a b ≡ Equal
SameBound order Unbounded Unbounded = Unit {0}
SameBound order (Included a) (Excluded b) = ⊥
SameBound order (Included a) Unbounded = ⊥
SameBound order (Excluded a) (Included b) = ⊥
SameBound order (Excluded a) Unbounded = ⊥
SameBound order Unbounded (Included b) = ⊥
SameBound order Unbounded (Excluded b) = ⊥

level : (o p : Ordering) → o ≡ Equal → p ≡ Equal → ordering_then o p ≡ Equal
level o p e f = rw e f

module _ {K : Type 0} (order : KeyOrder K) (lawful : IsLawful order) where
  told_same : (o p : Option K) (q r : Position K) → SameAnswer order o p
      → position_cmp order.cmp q r ≡ Equal
      → position_cmp order.cmp (at_known o q) (at_known p r) ≡ Equal
  told_same None None q r h e = e
  told_same None (Some y) q r h e = absurd h
  told_same (Some x) None q r h e = absurd h
  told_same (Some x) (Some y) q r h e = level (order.cmp x y) Equal h refl

  pub same_start : (a b : Bound K) → SameBound order a b
      → position_cmp order.cmp (start_position order a) (start_position order b) ≡ Equal
  same_start (Included a) (Included b) h = level (order.cmp a b) Equal h refl
  same_start (Excluded a) (Excluded b) h =
      told_same (order.succ a) (order.succ b) (Beside a After) (Beside b After)
      (lawful.succ_congr a b h) (level (order.cmp a b) Equal h refl)
  same_start Unbounded Unbounded h =
      tied_itself (position_total order.cmp lawful.total) (at_known order.least MinusInfinity)
  same_start (Included a) (Excluded b) h = absurd h
  same_start (Included a) Unbounded h = absurd h
  same_start (Excluded a) (Included b) h = absurd h
  same_start (Excluded a) Unbounded h = absurd h
  same_start Unbounded (Included b) h = absurd h
  same_start Unbounded (Excluded b) h = absurd h

  pub same_end : (a b : Bound K) → SameBound order a b
      → position_cmp order.cmp (end_position order a) (end_position order b) ≡ Equal
  same_end (Included a) (Included b) h = level (order.cmp a b) Equal h refl
  same_end (Excluded a) (Excluded b) h =
      told_same (order.pred a) (order.pred b) (Beside a Before) (Beside b Before)
      (lawful.pred_congr a b h) (level (order.cmp a b) Equal h refl)
  same_end Unbounded Unbounded h =
      tied_itself (position_total order.cmp lawful.total) (at_known order.greatest PlusInfinity)
  same_end (Included a) (Excluded b) h = absurd h
  same_end (Included a) Unbounded h = absurd h
  same_end (Excluded a) (Included b) h = absurd h
  same_end (Excluded a) Unbounded h = absurd h
  same_end Unbounded (Included b) h = absurd h
  same_end Unbounded (Excluded b) h = absurd h

  -- ranges with the same bounds are equal
  pub same_bounds : (r s : AnyRange K) → SameBound order r.start s.start
      → SameBound order r.end s.end → range_cmp order r s ≡ Equal
  same_bounds r s h k =
      level (position_cmp order.cmp (start_position order r.start) (start_position order s.start))
      (position_cmp order.cmp (end_position order r.end) (end_position order s.end))
      (same_start r.start s.start h) (same_end r.end s.end k)

  pub same_itself : (a : Bound K) → SameBound order a a
  same_itself (Included a) = tied_itself lawful.total a
  same_itself (Excluded a) = tied_itself lawful.total a
  same_itself Unbounded = tt

  module _ (is_clone : K → K → Type 0)
      (equal : (x y : K) → is_clone x y → order.cmp x y ≡ Equal) where
    pub bound_clone : (a b : Bound K) → IsBoundClone is_clone a b → SameBound order a b
    bound_clone (Included a) (Included b) h = equal a b h
    bound_clone (Excluded a) (Excluded b) h = equal a b h
    bound_clone Unbounded Unbounded h = h
    bound_clone (Included a) (Excluded b) h = h
    bound_clone (Included a) Unbounded h = h
    bound_clone (Excluded a) (Included b) h = h
    bound_clone (Excluded a) Unbounded h = h
    bound_clone Unbounded (Included b) h = h
    bound_clone Unbounded (Excluded b) h = h

    -- the clone of a range equals it
    pub range_clone : (r s : AnyRange K)
        → IsBoundClone is_clone r.start s.start × IsBoundClone is_clone r.end s.end
        → range_cmp order r s ≡ Equal
    range_clone r s h =
        same_bounds r s (bound_clone r.start s.start h.0) (bound_clone r.end s.end h.1)
