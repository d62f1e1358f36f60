-- The least and the greatest key that a range holds.
use Rattle.range_keys.specs.Order.{KeyOrder, NotAbove}
use Rattle.range_algebra.specs.declared.any.AnyRange.{AnyRange}
use Rattle.range_algebra.specs.Range.{Holds}

module _ {K : Type 0} (order : KeyOrder K) where
  -- the key is held, and no held key is less
  abbrev pub IsLeastOf : AnyRange K → K → Type 0
  IsLeastOf r k =
      Holds order r k × ((j : K) → order.is_key j → Holds order r j → NotAbove order k j)

  -- the key is held, and no held key is greater
  abbrev pub IsGreatestOf : AnyRange K → K → Type 0
  IsGreatestOf r k =
      Holds order r k × ((j : K) → order.is_key j → Holds order r j → NotAbove order j k)

  abbrev pub HasNoLeast : AnyRange K → Type 0
  HasNoLeast r = (k : K) → order.is_key k → ¬ IsLeastOf r k

  abbrev pub HasNoGreatest : AnyRange K → Type 0
  HasNoGreatest r = (k : K) → order.is_key k → ¬ IsGreatestOf r k
