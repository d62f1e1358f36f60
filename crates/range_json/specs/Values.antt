-- What is written has values that the types really have.
use Rattle.std.specs.Prelude.{List}
use Rattle.std.specs.List.{AllByRecursion}
use Rattle.std.specs.declared.ops.Bound.{Bound}
use Rattle.std.specs.declared.ops.Bound.TheVariants.{Included, Excluded, Unbounded}
use Rattle.range_algebra.specs.declared.any.AnyRange.{AnyRange}
use Rattle.range_store.specs.declared.storage.Item.{Item}

module _ {K : Type 0} (is_key_value : K → Type 0) where
  abbrev pub IsBoundValue : Bound K → Type 0
  IsBoundValue (Included k) = is_key_value k
  IsBoundValue (Excluded k) = is_key_value k
  IsBoundValue Unbounded = Unit {0}

  abbrev pub IsRangeValue : AnyRange K → Type 0
  IsRangeValue r = IsBoundValue r.start × IsBoundValue r.end

  -- the bounds of each range
  abbrev pub AreRangeValues : {V : Type 0} → List (Item (AnyRange K) V) → Type 0
  AreRangeValues items = AllByRecursion (λ i. IsRangeValue i.key) items

  -- the bounds of each range, and each value
  abbrev pub AreItemValues : {V : Type 0} → (V → Type 0) → List (Item (AnyRange K) V) → Type 0
  AreItemValues is_value items = AllByRecursion (λ i. IsRangeValue i.key × is_value i.value) items
