-- The measure of a range fits, and over counted keys it is the number of keys that the range holds.
use Rattle.std.proofs.Common.{◌≡◌, ℕ, ◌+◌, ◌-◌, ◌<◌, ◌≤◌, ◌↔◌, refl, ap, arith, Option, Some, false}
use Rattle.std.specs.declared.ops.Bound.{Bound}
use Rattle.std.specs.declared.ops.Bound.TheVariants.{Included, Excluded, Unbounded}
use Rattle.std.specs.declared.cmp.Ordering.{Ordering}
use Rattle.std.specs.declared.cmp.Ordering.TheVariants.{Less, Equal, Greater}
use Rattle.std.specs.Ordering.{is_gt}
use Rattle.std.specs.Option.{IsSomeAnd}
use Rattle.range_keys.specs.Order.{KeyOrder, IsLawful, Below, NotAbove}
use Rattle.range_keys.specs.Counted.{IsCounted, IsCountedMeasure, counted_lawful}
use Rattle.range_keys.specs.Position.{start_position, end_position, position_cmp, at_known}
use Rattle.range_keys.specs.PositionOrder.{position_total}
use Rattle.range_keys.specs.declared.inner.position.Position.{Position}
use Rattle.range_keys.specs.declared.inner.position.Position.TheVariants.{Beside}
use Rattle.range_keys.specs.declared.inner.position.Side.TheVariants.{Before, At, After}
use Rattle.range_keys.proofs.Orderings.{not_greater, less_unless_equal}
use Rattle.range_algebra.specs.declared.any.AnyRange.{AnyRange}
use Rattle.range_algebra.specs.Intervals.{Le, Lt}
use Rattle.range_algebra.specs.Orders.{lt_le_trans, le_lt_trans, lt_trans}
use Rattle.range_algebra.specs.Range.{StartHolds, EndHolds, Holds, IsEmptyRange, IsBoundOfKey, IsKeyRange}
use Rattle.range_algebra.specs.Measures.{closed_by, measure_between, range_measure}
use Rattle.range_algebra.specs.Numbers.{IsNumberOfKeys}
use Rattle.range_algebra.proofs.Holding.{pred_below, empty_is_keyless}
use Rattle.range_algebra.proofs.Numbers.{IsFrom, number_none, number_same, number_from}
use Rattle.std.proofs.lemmas.Grind.{common_steps}

module _ {K : Type 0} (order : KeyOrder K) (lawful : IsLawful order) where
  PLe : Position K → Position K → Type 0
  PLe p q = Le (position_cmp order.cmp) p q

  PLt : Position K → Position K → Type 0
  PLt p q = Lt (position_cmp order.cmp) p q

  start_after : (a : K) (o : Option K) → order.succ a ≡ o
      → PLt (Beside a At) (at_known o (Beside a After))
  unfolding PLt
  start_after a o e = grind arith

  end_before : (b : K) (o : Option K) → order.pred b ≡ o
      → PLt (at_known o (Beside b Before)) (Beside b At)
  unfolding PLt
  end_before b o e = grind (arith, pred_below)

  -- the keys of the two bounds of a nonempty range do not cross
  pub included_included : (s e : Bound K) (a b : K) → s ≡ Included a → e ≡ Included b
      → Le (position_cmp order.cmp) (start_position order s) (end_position order e)
      → NotAbove order a b
  unfolding PLe
  included_included s e a b p q h = grind arith

  pub included_excluded : (s e : Bound K) (a b : K) → s ≡ Included a → e ≡ Excluded b
      → Le (position_cmp order.cmp) (start_position order s) (end_position order e)
      → Below order a b
  unfolding PLe PLt
  included_excluded s e a b p q h = grind (arith, le_lt_trans, lt_le_trans, lt_trans, pred_below)

  pub excluded_included : (s e : Bound K) (a b : K) → s ≡ Excluded a → e ≡ Included b
      → Le (position_cmp order.cmp) (start_position order s) (end_position order e)
      → Below order a b
  unfolding PLe PLt
  excluded_included s e a b p q h = grind arith

  pub excluded_excluded : (s e : Bound K) (a b : K) → s ≡ Excluded a → e ≡ Excluded b
      → Le (position_cmp order.cmp) (start_position order s) (end_position order e)
      → Below order a b
  unfolding PLe PLt
  excluded_excluded s e a b p q h =
      let total = position_total order.cmp lawful.total in
      let h' : Le (position_cmp order.cmp) (start_position order (Excluded a))
      (end_position order (Excluded b)) = rw (p, q) at h in
      less_unless_equal (order.cmp a b)
      (lt_trans _ total (Beside a At) _ (Beside b At)
      (lt_le_trans _ total (Beside a At) _ _ (start_after a (order.succ a) refl) h')
      (end_before b (order.pred b) refl))

  -- a told end stands where the unbounded bound does
  pub told_start : (s : Bound K)
      → start_position order (closed_by order.least s) ≡ start_position order s
  told_start s = grind arith

  pub told_end : (e : Bound K)
      → end_position order (closed_by order.greatest e) ≡ end_position order e
  told_end e = grind arith

  -- the start of a nonempty range is not past its end, after what is told is put in
  pub told_reach : (r : AnyRange K) → ¬ IsEmptyRange order r
      → Le (position_cmp order.cmp) (start_position order (closed_by order.least r.start))
      (end_position order (closed_by order.greatest r.end))
  told_reach r full = rw (told_start r.start, told_end r.end) (not_greater _ full)

  -- a bound that names a key of the type names one after what is told is put in
  pub told_known : (told : Option K) (b : Bound K) → ((m : K) → told ≡ Some m → order.is_key m)
      → IsBoundOfKey order b → IsBoundOfKey order (closed_by told b)
  told_known told b keys known = grind arith

  pub full_measure : (len : K → ℕ) (distance : K → K → ℕ) (r : AnyRange K) → ¬ IsEmptyRange order r
      → range_measure order len distance r
      ≡ measure_between len distance (closed_by order.least r.start)
      (closed_by order.greatest r.end)
  full_measure len distance r full = rw (not_greater _ full) refl

module _ {K : Type 0} {order : KeyOrder K} {index : K → ℕ} {size : ℕ}
    (counted : IsCounted order index size) where
  -- the index of the first key that a start holds, and of the first that an end does not
  abbrev low : Bound K → ℕ
  low (Included a) = index a
  low (Excluded a) = index a + 1
  low Unbounded = 0

  abbrev high : Bound K → ℕ
  high (Included b) = index b + 1
  high (Excluded b) = index b
  high Unbounded = size

  start_from : (s : Bound K) (k : K) → IsBoundOfKey order s → order.is_key k → StartHolds order s k
      ↔ low s ≤ index k
  start_from s k known key = grind (arith, common_steps)

  end_up_to : (e : Bound K) (k : K) → IsBoundOfKey order e → order.is_key k → EndHolds order e k
      ↔ index k < high e
  end_up_to e k known key = grind (arith, common_steps)

  high_fits : (e : Bound K) → IsBoundOfKey order e → high e ≤ size
  high_fits e known = grind arith

  -- a range that holds a key holds as many as lie from its first index to its last
  number_held : (r : AnyRange K) → IsKeyRange order r → low r.start < high r.end
      → IsNumberOfKeys order (Holds order r) (high r.end - low r.start)
  number_held r known l =
      let fits : high r.end ≤ size = high_fits r.end known.1 in
      number_same order counted.total (IsFrom counted (low r.start) (high r.end - low r.start))
      (Holds order r) (high r.end - low r.start)
      (λ k key.
      let from = start_from r.start k known.0 key in
      let to = end_up_to r.end k known.1 key in (
        λ h. (
          from.1 h.0,
          to.1 (let f : low r.start ≤ index k = h.0 in let g : index k
              < low r.start + (high r.end - low r.start) = h.1 in omega arith),
        ),
        λ h. (
          from.0 h.0,
          (let f : low r.start ≤ index k = from.0 h.0 in let g : index k
              < high r.end = to.0 h.1 in omega arith),
        ),
      ))
      (number_from counted (low r.start) (high r.end - low r.start) (omega arith))

  nonempty_range_measures : (r : AnyRange K) → IsKeyRange order r
      → Le (position_cmp order.cmp) (start_position order r.start) (end_position order r.end)
      → low r.start < high r.end
  nonempty_range_measures r known h = grind (arith, common_steps)

  module _ (len : K → ℕ) (distance : K → K → ℕ) (each_one : (a : K) → len a ≡ 1)
      (apart : (a b : K) → distance a b ≡ index b - index a) where
    counts_told : (s e : Bound K) → low s < high e
        → measure_between len distance (closed_by order.least s) (closed_by order.greatest e)
        ≡ Some (high e - low s)
    counts_told s e l = grind arith

module _ {K : Type 0} (order : KeyOrder K) (len : K → ℕ) (distance : K → K → ℕ)
    (counts : IsCountedMeasure order len distance) where
  filled_number : (r : AnyRange K) → IsKeyRange order r
      → is_gt (position_cmp order.cmp (start_position order r.start) (end_position order r.end))
      ≡ false
      → IsSomeAnd (range_measure order len distance r) (IsNumberOfKeys order (Holds order r))
  filled_number r known h =
      let l = nonempty_range_measures counts.counted r known h in
      rw (h, counts_told counts.counted len distance counts.each_one counts.apart r.start r.end l)
      (number_held counts.counted r known l)

  number_by : (r : AnyRange K) → IsKeyRange order r → (o : Ordering)
      → position_cmp order.cmp (start_position order r.start) (end_position order r.end) ≡ o
      → IsSomeAnd (range_measure order len distance r) (IsNumberOfKeys order (Holds order r))
  number_by r known Greater e =
      rw e (number_none order counts.counted.total (Holds order r)
      (empty_is_keyless order (counted_lawful counts.counted) r e))
  number_by r known Less e = filled_number r known (ap is_gt e)
  number_by r known Equal e = filled_number r known (ap is_gt e)

  -- the measure of a range is the number of its keys
  pub measure_is_number : (r : AnyRange K) → IsKeyRange order r
      → IsSomeAnd (range_measure order len distance r) (IsNumberOfKeys order (Holds order r))
  measure_is_number r known = grind (arith, number_by)
