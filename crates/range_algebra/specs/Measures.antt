-- The measure of a range.
use Rattle.std.specs.Prelude.{◌≡◌, ℕ, ◌+◌, ◌-◌, Option, Some, None, List, [], ◌∷◌, ◌⊎◌, ⊤, if◌then◌else◌}
use Rattle.std.specs.declared.ops.Bound.{Bound}
use Rattle.std.specs.declared.ops.Bound.TheVariants.{Included, Excluded, Unbounded}
use Rattle.std.specs.Ordering.{is_gt}
use Rattle.range_keys.specs.Order.{KeyOrder}
use Rattle.range_keys.specs.Position.{start_position, end_position, position_cmp}
use Rattle.range_algebra.specs.declared.any.AnyRange.{AnyRange}
use Rattle.range_algebra.specs.Range.{IsKeyRange, IsEmptyRange}
use Rattle.range_algebra.specs.Relations.{LiesBefore}

-- a known end, included, stands for an unbounded bound
abbrev pub closed_by : {K : Type 0} → Option K → Bound K → Bound K
closed_by told (Included a) = Included a
closed_by told (Excluded a) = Excluded a
closed_by (Some a) Unbounded = Included a
closed_by None Unbounded = Unbounded

-- the distance from the start's key to the end's, less the length of an excluded start, plus that
-- of an included end
abbrev pub measure_between : {K : Type 0} → (K → ℕ) → (K → K → ℕ) → Bound K → Bound K → Option ℕ
measure_between len distance (Included a) (Included b) = Some (distance a b + len b)
measure_between len distance (Included a) (Excluded b) = Some (distance a b)
measure_between len distance (Excluded a) (Included b) = Some (distance a b - len a + len b)
measure_between len distance (Excluded a) (Excluded b) = Some (distance a b - len a)
measure_between len distance Unbounded end = None
measure_between len distance (Included a) Unbounded = None
measure_between len distance (Excluded a) Unbounded = None

-- both together, where both are there
abbrev pub measure_sum : Option ℕ → Option ℕ → Option ℕ
measure_sum (Some m) (Some n) = Some (m + n)
measure_sum (Some m) None = None
measure_sum None n = None

module _ {K : Type 0} (order : KeyOrder K) where
  -- the range is unbounded towards an end that is not known
  abbrev pub HasUnknownEnd : AnyRange K → Type 0
  HasUnknownEnd r =
      ((r.start ≡ Unbounded) × (order.least ≡ None)) ⊎
      ((r.end ≡ Unbounded) × (order.greatest ≡ None))

  -- 0 where the start lies past the end, and otherwise what lies between the bounds, where both are
  -- known
  abbrev pub range_measure : (K → ℕ) → (K → K → ℕ) → AnyRange K → Option ℕ
  range_measure len distance r =
      if is_gt (position_cmp order.cmp (start_position order r.start) (end_position order r.end))
      then Some 0
      else measure_between len distance (closed_by order.least r.start)
      (closed_by order.greatest r.end)

  -- the measures of the ranges together
  abbrev pub list_measure : (K → ℕ) → (K → K → ℕ) → List (AnyRange K) → Option ℕ
  list_measure len distance [] = Some 0
  list_measure len distance (r ∷ ranges) =
      measure_sum (range_measure len distance r) (list_measure len distance ranges)

  -- the ranges are of keys and nonempty, and each ends before the next starts
  abbrev pub AreInOrder : List (AnyRange K) → Type 0
  AreInOrder [] = ⊤
  AreInOrder (r ∷ []) = IsKeyRange order r × ¬ IsEmptyRange order r
  AreInOrder (r ∷ s ∷ ranges) =
      IsKeyRange order r × (¬ IsEmptyRange order r) × LiesBefore order r s
      × AreInOrder (s ∷ ranges)
