-- What ranges over references point to.
use Rattle.std.specs.Option.{option_map}
use Rattle.std.specs.Borrow.{Bor}
use Rattle.std.specs.Range.Bound.{bound_map}
use Rattle.range_algebra.specs.declared.any.AnyRange.{AnyRange}
use Rattle.range_algebra.specs.declared.range.parts.Difference.{Difference}
use Rattle.range_algebra.specs.declared.range.parts.Difference.TheVariants.{Before, After, Split, Empty}
use Rattle.range_algebra.specs.declared.range.parts.Product.{Product}
use Rattle.range_algebra.specs.declared.range.parts.ProductArg.{ProductArg}
use Rattle.range_algebra.specs.declared.range.parts.ProductArg.TheVariants.{Subject, Object}

abbrev pub range_map : {A B : Type 0} → (A → B) → AnyRange A → AnyRange B
range_map f r = record { start = bound_map f r.start; end = bound_map f r.end }

abbrev pub difference_map : {A B : Type 0} → (A → B) → Difference A → Difference B
difference_map f (Before r met) = Before (range_map f r) met
difference_map f (After r met) = After (range_map f r) met
difference_map f (Split r s) = Split (range_map f r) (range_map f s)
difference_map f Empty = Empty

abbrev pub part_map : {A B : Type 0} → (A → B) → ProductArg A → ProductArg B
part_map f (Subject r) = Subject (range_map f r)
part_map f (Object r) = Object (range_map f r)

abbrev pub product_map : {A B : Type 0} → (A → B) → Product A → Product B
product_map f p =
    record {
      before = option_map (part_map f) p.before;
      intersection = option_map (range_map f) p.intersection;
      after =
          option_map (part_map f) p.after;
    }

-- what the references point to
abbrev pub range_of : {K : Type 0} → AnyRange (Bor K) → AnyRange K
range_of = range_map (λ x. x.now)

abbrev pub difference_of : {K : Type 0} → Difference (Bor K) → Difference K
difference_of = difference_map (λ x. x.now)

abbrev pub part_of : {K : Type 0} → ProductArg (Bor K) → ProductArg K
part_of = part_map (λ x. x.now)

abbrev pub product_of : {K : Type 0} → Product (Bor K) → Product K
product_of = product_map (λ x. x.now)
