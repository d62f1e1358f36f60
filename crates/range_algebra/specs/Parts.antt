-- The parts of ranges that are cut by one another.
use Rattle.std.specs.Prelude.{◌≡◌, Option, Some, None, Bool, false, if◌then◌else◌, ◌⊎◌, ◌↔◌}
use Rattle.std.specs.Option.{option_map, option_or}
use Rattle.std.specs.declared.ops.Bound.{Bound}
use Rattle.range_keys.specs.Order.{KeyOrder}
use Rattle.range_algebra.specs.declared.any.AnyRange.{AnyRange}
use Rattle.range_algebra.specs.declared.range.parts.Difference.{Difference}
use Rattle.range_algebra.specs.declared.range.parts.Difference.TheVariants.{Before, After, Split, Empty}
use Rattle.range_algebra.specs.declared.range.parts.Product.{Product}
use Rattle.range_algebra.specs.declared.range.parts.ProductArg.{ProductArg}
use Rattle.range_algebra.specs.declared.range.parts.ProductArg.TheVariants.{Subject, Object}
use Rattle.range_algebra.specs.Compared.{flipped, starts_past_end, range_ordering, matches}
use Rattle.range_algebra.specs.Combined.{later_start, earlier_end, common}
use Rattle.range_algebra.specs.Range.{Holds}
use Rattle.range_algebra.specs.Relations.{AreBelow}
use Rattle.std.specs.declared.cmp.Ordering.TheVariants.{Less}

module _ {K : Type 0} (order : KeyOrder K) where
  abbrev pub is_empty_range : AnyRange K → Bool
  is_empty_range r = starts_past_end order r.start r.end

  -- the range, unless it is empty
  abbrev pub unless_empty : AnyRange K → Option (AnyRange K)
  unless_empty r = if is_empty_range r then None else Some r

  -- the part up to an end, and from a start
  abbrev pub part_to : AnyRange K → Option (Bound K) → Option (AnyRange K)
  part_to r None = None
  part_to r (Some end) =
      unless_empty (record { start = r.start; end = earlier_end order r.end end })

  abbrev pub part_from : AnyRange K → Option (Bound K) → Option (AnyRange K)
  part_from r None = None
  part_from r (Some start) =
      unless_empty (record { start = later_start order r.start start; end = r.end })

  -- what of the first lies before the second, and after it, if anything does
  abbrev pub part_before : AnyRange K → AnyRange K → Option (AnyRange K)
  part_before r s = part_to r (flipped s.start)

  abbrev pub part_after : AnyRange K → AnyRange K → Option (AnyRange K)
  part_after r s = part_from r (flipped s.end)

  abbrev pub pieces : Option (AnyRange K) → Option (AnyRange K) → Bool → Difference K
  pieces None None met = Empty
  pieces (Some left) None met = Before left met
  pieces None (Some right) met = After right met
  pieces (Some left) (Some right) met = Split left right

  -- the first without the second; an empty range takes nothing away
  abbrev pub difference : AnyRange K → AnyRange K → Difference K
  difference r s = if is_empty_range r then Empty
      else (if is_empty_range s then Before r false else pieces (part_before r s) (part_after r s)
      (matches (range_ordering order r s) false))

  abbrev pub full_product : AnyRange K → AnyRange K → Product K
  full_product r s = record {
    before = option_or (option_map Subject (part_before r s)) (option_map Object (part_before s r));
    intersection = unless_empty (common order r s);
    after = option_or (option_map Subject (part_after r s)) (option_map Object (part_after s r));
  }

  -- the parts of both; beside an empty range the other is a part as a whole
  abbrev pub product : AnyRange K → AnyRange K → Product K
  product r s =
      if is_empty_range r then record {
        before = None;
        intersection = None;
        after = option_map Object (unless_empty s);
      }
      else (if is_empty_range s then record {
        before = None;
        intersection = None;
        after = Some (Subject r);
      } else full_product r s)

  -- some part holds the key
  abbrev pub DifferenceHolds : Difference K → K → Type 0
  DifferenceHolds (Before r met) k = Holds order r k
  DifferenceHolds (After r met) k = Holds order r k
  DifferenceHolds (Split left right) k = Holds order left k ⊎ Holds order right k
  DifferenceHolds Empty k = ⊥

  -- the parts hold just the keys of the first range that the second does not hold
  abbrev pub HoldsDifference : AnyRange K → AnyRange K → Difference K → Type 0
  HoldsDifference r s d = (k : K) → order.is_key k → DifferenceHolds d k
      ↔ (Holds order r k × ¬ Holds order s k)

  -- each part lies on the side of the range that its name says
  abbrev pub LieRound : Difference K → AnyRange K → Type 0
  LieRound (Before r met) s = AreBelow order r s
  LieRound (After r met) s = AreBelow order s r
  LieRound (Split left right) s = AreBelow order left s × AreBelow order s right
  LieRound Empty s = Unit {0}

  abbrev pub RangeHolds : Option (AnyRange K) → K → Type 0
  RangeHolds None k = ⊥
  RangeHolds (Some r) k = Holds order r k

  -- the part is of the first range, or of the second, and holds the key
  abbrev pub IsOfSubject : Option (ProductArg K) → K → Type 0
  IsOfSubject None k = ⊥
  IsOfSubject (Some (Subject r)) k = Holds order r k
  IsOfSubject (Some (Object r)) k = ⊥

  abbrev pub IsOfObject : Option (ProductArg K) → K → Type 0
  IsOfObject None k = ⊥
  IsOfObject (Some (Subject r)) k = ⊥
  IsOfObject (Some (Object r)) k = Holds order r k

  abbrev pub PartHolds : Option (ProductArg K) → K → Type 0
  PartHolds None k = ⊥
  PartHolds (Some (Subject r)) k = Holds order r k
  PartHolds (Some (Object r)) k = Holds order r k

  -- each key of the first is less than each key of the second
  abbrev pub ComesBefore : (K → Type 0) → (K → Type 0) → Type 0
  ComesBefore P Q = (a b : K) → order.is_key a → order.is_key b → P a → Q b → order.cmp a b ≡ Less

  -- the parts of two ranges, by the keys that they hold
  pub record IsProduct (r s : AnyRange K) (p : Product K) : Type 0 where
    -- together the keys of the two
    pub held : (k : K) → order.is_key k
        → (PartHolds p.before k ⊎ (RangeHolds p.intersection k ⊎ PartHolds p.after k))
        ↔ (Holds order r k ⊎ Holds order s k)
    -- in the middle the keys that both hold
    pub shared : (k : K) → order.is_key k → RangeHolds p.intersection k
        ↔ (Holds order r k × Holds order s k)
    -- in a labelled part only keys of the range that it names, outside the other
    pub subjects : (k : K) → order.is_key k → IsOfSubject p.before k ⊎ IsOfSubject p.after k
        → Holds order r k × ¬ Holds order s k
    pub objects : (k : K) → order.is_key k → IsOfObject p.before k ⊎ IsOfObject p.after k
        → Holds order s k × ¬ Holds order r k
    -- in order
    pub before_shared : ComesBefore (PartHolds p.before) (RangeHolds p.intersection)
    pub shared_after : ComesBefore (RangeHolds p.intersection) (PartHolds p.after)
    pub before_after : ComesBefore (PartHolds p.before) (PartHolds p.after)
