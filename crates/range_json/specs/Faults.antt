-- The first fault of a JSON value that is read as a range, and what is read there.
use Rattle.std.specs.Prelude.{◌≡◌, ℕ, suc, List, [], ◌∷◌, Option, Some, None, Bool, if◌then◌else◌}
use Rattle.std.specs.declared.ops.Bound.{Bound}
use Rattle.std.specs.declared.ops.Bound.TheVariants.{Included, Excluded, Unbounded}
use Rattle.serde_json.specs.Data.{Data}
use Rattle.range_algebra.specs.declared.any.AnyRange.{AnyRange}
use Rattle.range_json.specs.declared.error.JsonError.{JsonError}
use Rattle.range_json.specs.declared.error.JsonError.TheVariants.{NotArray, NotRange, NotBound, Key}
use Rattle.range_json.specs.Shapes.{pair_of, bound_of}

-- the first of two faults
abbrev pub before : Option JsonError → Option JsonError → Option JsonError
before None f = f
before (Some e) f = Some e

module _ (key_reads : Data → Bool) where
  abbrev pub key_fault : ℕ → Data → Option JsonError
  key_fault i d = if key_reads d then None else Some (Key i)

  abbrev pub parts_fault : ℕ → Option (Bound Data) → Option JsonError
  parts_fault i None = Some (NotBound i)
  parts_fault i (Some (Included d)) = key_fault i d
  parts_fault i (Some (Excluded d)) = key_fault i d
  parts_fault i (Some Unbounded) = None

  abbrev pub bound_fault : ℕ → Data → Option JsonError
  bound_fault i d = parts_fault i (bound_of d)

  abbrev pub bounds_fault : ℕ → Option (Data × Data) → Option JsonError
  bounds_fault i None = Some (NotRange i)
  bounds_fault i (Some p) = before (bound_fault i p.0) (bound_fault i p.1)

  -- the first fault of the range of the element at i
  abbrev pub range_fault : ℕ → Data → Option JsonError
  range_fault i d = bounds_fault i (pair_of d)

-- the first fault of the elements, the first of which is at i
abbrev pub first_fault : (ℕ → Data → Option JsonError) → ℕ → List Data → Option JsonError
first_fault fault i [] = None
first_fault fault i (d ∷ ds) = before (fault i d) (first_fault fault (suc i) ds)

abbrev pub array_fault : (ℕ → Data → Option JsonError) → Option (List Data) → Option JsonError
array_fault fault None = Some NotArray
array_fault fault (Some ds) = first_fault fault 0 ds

module _ {K : Type 0} (key_is_read : Data → K → Type 0) where
  -- the parts are of the same kind, and the key is read
  abbrev pub ArePartsRead : Option (Bound Data) → Bound K → Type 0
  ArePartsRead None b = ⊥
  ArePartsRead (Some (Included d)) (Included k) = key_is_read d k
  ArePartsRead (Some (Included d)) (Excluded k) = ⊥
  ArePartsRead (Some (Included d)) Unbounded = ⊥
  ArePartsRead (Some (Excluded d)) (Included k) = ⊥
  ArePartsRead (Some (Excluded d)) (Excluded k) = key_is_read d k
  ArePartsRead (Some (Excluded d)) Unbounded = ⊥
  ArePartsRead (Some Unbounded) (Included k) = ⊥
  ArePartsRead (Some Unbounded) (Excluded k) = ⊥
  ArePartsRead (Some Unbounded) Unbounded = Unit {0}

  abbrev pub IsBoundRead : Data → Bound K → Type 0
  IsBoundRead d b = ArePartsRead (bound_of d) b

  -- the range has the bounds in the array
  abbrev pub IsRangeRead : Data → AnyRange K → Type 0
  IsRangeRead d r =
      (ds : Data × Data) × (pair_of d ≡ Some ds) × IsBoundRead ds.0 r.start × IsBoundRead ds.1 r.end
