-- Clones of the parts of ranges.
use Rattle.std.specs.Prelude.{Option, Some, None}
use Rattle.range_algebra.specs.declared.range.parts.Product.{Product}
use Rattle.range_algebra.specs.declared.range.parts.ProductArg.{ProductArg}
use Rattle.range_algebra.specs.declared.range.parts.ProductArg.TheVariants.{Subject, Object}
use Rattle.range_algebra.specs.Clones.{IsRangeClone, IsRangeInfallible}

-- both are there and the second is a clone of the first, or neither is
abbrev pub IsOptionClone : {T U : Type 0} → (T → U → Type 0) → Option T → Option U → Type 0
IsOptionClone is_clone None None = Unit {0}
IsOptionClone is_clone None (Some y) = ⊥
IsOptionClone is_clone (Some x) None = ⊥
IsOptionClone is_clone (Some x) (Some y) = is_clone x y

abbrev pub IsOptionInfallible : {T : Type 0} → (T → Type 0) → Option T → Type 0
IsOptionInfallible is_infallible None = Unit {0}
IsOptionInfallible is_infallible (Some x) = is_infallible x

module _ {T : Type 0} (is_clone : T → T → Type 0) where
  -- both are parts of the same range
  abbrev pub IsPartClone : ProductArg T → ProductArg T → Type 0
  IsPartClone (Subject r) (Subject s) = IsRangeClone is_clone r s
  IsPartClone (Subject r) (Object s) = ⊥
  IsPartClone (Object r) (Subject s) = ⊥
  IsPartClone (Object r) (Object s) = IsRangeClone is_clone r s

  abbrev pub IsProductClone : Product T → Product T → Type 0
  IsProductClone p q =
      IsOptionClone IsPartClone p.before q.before
      × IsOptionClone (IsRangeClone is_clone) p.intersection q.intersection
      × IsOptionClone IsPartClone p.after q.after

module _ {T : Type 0} (is_infallible : T → Type 0) where
  abbrev pub IsPartInfallible : ProductArg T → Type 0
  IsPartInfallible (Subject r) = IsRangeInfallible is_infallible r
  IsPartInfallible (Object r) = IsRangeInfallible is_infallible r

  abbrev pub IsProductInfallible : Product T → Type 0
  IsProductInfallible p =
      IsOptionInfallible IsPartInfallible p.before
      × IsOptionInfallible (IsRangeInfallible is_infallible) p.intersection
      × IsOptionInfallible IsPartInfallible p.after
