-- Which keys a range holds.
use Rattle.std.specs.Prelude.{◌≡◌, false, Bool, IsTrue, Option, Some, ◌↔◌}
use Rattle.std.specs.declared.ops.Bound.{Bound}
use Rattle.std.specs.declared.ops.Bound.TheVariants.{Included, Excluded, Unbounded}
use Rattle.std.specs.declared.cmp.Ordering.TheVariants.{Greater}
use Rattle.range_keys.specs.Order.{KeyOrder, Below, NotAbove}
use Rattle.std.specs.Ordering.{is_gt}
use Rattle.range_keys.specs.Position.{start_position, end_position, position_cmp}
use Rattle.range_keys.specs.Touching.{IsOverKeys}
use Rattle.range_keys.specs.declared.inner.position.Position.TheVariants.{Beside}
use Rattle.range_keys.specs.declared.inner.position.Side.TheVariants.{At}
use Rattle.range_algebra.specs.declared.any.AnyRange.{AnyRange}

-- the range from the start to the end
abbrev pub with_bounds : {K : Type 0} → Bound K → Bound K → AnyRange K
with_bounds start end = record { start = start; end = end }

module _ {K : Type 0} (order : KeyOrder K) where
  abbrev pub StartHolds : Bound K → K → Type 0
  StartHolds (Included a) k = NotAbove order a k
  StartHolds (Excluded a) k = Below order a k
  StartHolds Unbounded k = Unit {0}

  abbrev pub EndHolds : Bound K → K → Type 0
  EndHolds (Included b) k = NotAbove order k b
  EndHolds (Excluded b) k = Below order k b
  EndHolds Unbounded k = Unit {0}

  -- both bounds hold the key
  abbrev pub Holds : AnyRange K → K → Type 0
  Holds r k = StartHolds r.start k × EndHolds r.end k

  -- the range holds no key
  abbrev pub IsKeyless : AnyRange K → Type 0
  IsKeyless r = (k : K) → order.is_key k → ¬ Holds r k

  -- the ranges hold the same keys
  abbrev pub HoldSame : AnyRange K → AnyRange K → Type 0
  HoldSame r s = (k : K) → order.is_key k → Holds r k ↔ Holds s k

  -- the start lies past the end
  abbrev pub IsEmptyRange : AnyRange K → Type 0
  IsEmptyRange r =
      position_cmp order.cmp (start_position order r.start) (end_position order r.end) ≡ Greater

  -- the position of the key lies from the start to the end
  abbrev pub LiesWithin : AnyRange K → K → Type 0
  LiesWithin r k =
      (is_gt (position_cmp order.cmp (start_position order r.start) (Beside k At)) ≡ false)
      × (is_gt (position_cmp order.cmp (Beside k At) (end_position order r.end)) ≡ false)

  -- the bound's value, if it has one, is a key
  abbrev pub IsBoundOfKey : Bound K → Type 0
  IsBoundOfKey b = IsOverKeys order b

  abbrev pub IsKeyRange : AnyRange K → Type 0
  IsKeyRange r = IsBoundOfKey r.start × IsBoundOfKey r.end

  -- the least key that a start bound names, and the greatest that an end bound names, where they
  -- are known
  abbrev pub start_key : Bound K → Option K
  start_key (Included a) = Some a
  start_key (Excluded a) = order.succ a
  start_key Unbounded = order.least

  abbrev pub end_key : Bound K → Option K
  end_key (Included b) = Some b
  end_key (Excluded b) = order.pred b
  end_key Unbounded = order.greatest

-- a clone that succeeds equals its source
abbrev pub ClonesAreEqual : {T : Type 0} → (T → T → Type 0) → (T → T → Bool) → Type 0
ClonesAreEqual {T} is_clone eq = (x y : T) → is_clone x y → IsTrue (eq x y)
