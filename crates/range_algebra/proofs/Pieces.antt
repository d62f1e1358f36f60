-- Which keys the parts of ranges hold that are cut by one another.
use Rattle.std.proofs.Common.{◌≡◌, refl, ◌↔◌, true, false, Bool, Option, Some, None, ◌⊎◌, inl, inr, if◌then◌else◌, arith, rules}
use Rattle.std.specs.declared.ops.Bound.{Bound}
use Rattle.range_keys.specs.Order.{KeyOrder, IsLawful, Below, NotAbove}
use Rattle.range_keys.proofs.Orderings.{gt_is_greater}
use Rattle.range_algebra.specs.declared.any.AnyRange.{AnyRange}
use Rattle.range_algebra.specs.declared.range.parts.Difference.TheVariants.{Before, Empty}
use Rattle.range_algebra.specs.Range.{StartHolds, EndHolds, Holds, IsEmptyRange}
use Rattle.range_algebra.specs.Compared.{flipped, range_ordering, matches}
use Rattle.range_algebra.specs.Combined.{later_start, earlier_end}
use Rattle.range_algebra.specs.Parts.{is_empty_range, unless_empty, part_to, part_from, part_before, part_after, pieces, difference, DifferenceHolds, LieRound, RangeHolds}
use Rattle.range_algebra.proofs.Holding.{empty_is_keyless}
use Rattle.range_algebra.proofs.Commons.{start_both, end_both}

-- whether a range is empty is decided
pub empty_or_not : {K : Type 0} (order : KeyOrder K) (r : AnyRange K)
    → IsEmptyRange order r ⊎ (¬ IsEmptyRange order r)
empty_or_not order r = grind arith

module _ {K : Type 0} (order : KeyOrder K) (lawful : IsLawful order) where
  -- whether a bound holds a key is decided
  pub start_decided : (b : Bound K) (k : K) → StartHolds order b k ⊎ (¬ StartHolds order b k)
  start_decided b k = grind arith

  pub end_decided : (b : Bound K) (k : K) → EndHolds order b k ⊎ (¬ EndHolds order b k)
  end_decided b k = grind arith

  -- the bound on the other side of the same place holds the other keys
  pub flipped_end : (b i : Bound K) (k : K) → flipped b ≡ Some i → EndHolds order i k
      ↔ (¬ StartHolds order b k)
  flipped_end b i k e = grind arith

  pub flipped_start : (b i : Bound K) (k : K) → flipped b ≡ Some i → StartHolds order i k
      ↔ (¬ EndHolds order b k)
  flipped_start b i k e = grind arith

  none_start : (b : Bound K) (k : K) → flipped b ≡ None → StartHolds order b k
  none_start b k e = grind arith

  none_end : (b : Bound K) (k : K) → flipped b ≡ None → EndHolds order b k
  none_end b k e = grind arith

  -- a start that holds a key holds what is not below it
  pub start_up : (b : Bound K) (j k : K) → NotAbove order j k → StartHolds order b j
      → StartHolds order b k
  start_up b j k l h = grind arith

  pub end_down : (b : Bound K) (j k : K) → NotAbove order j k → EndHolds order b k
      → EndHolds order b j
  end_down b j k l h = grind arith

  -- what a start does not hold is below what it holds
  pub start_splits : (b : Bound K) (j k : K) → (¬ StartHolds order b j) → StartHolds order b k
      → Below order j k
  start_splits b j k outside h = grind arith

  pub end_splits : (b : Bound K) (j k : K) → EndHolds order b j → (¬ EndHolds order b k)
      → Below order j k
  end_splits b j k h outside = grind arith

  unless_by : (r : AnyRange K) (k : K) → order.is_key k → (e : Bool) → is_empty_range order r ≡ e
      → RangeHolds order (if e then None else Some r) k ↔ Holds order r k
  unless_by r k key h e = grind (arith, empty_is_keyless)

  pub unless_holds : (r : AnyRange K) (k : K) → order.is_key k
      → RangeHolds order (unless_empty order r) k ↔ Holds order r k
  unless_holds r k key = unless_by r k key (is_empty_range order r) refl

  part_to_holds : (r : AnyRange K) (b : Bound K) (o : Option (Bound K)) (k : K) → order.is_key k
      → flipped b ≡ o → RangeHolds order (part_to order r o) k
      ↔ (Holds order r k × (¬ StartHolds order b k))
  part_to_holds r b None k key e = (λ h. absurd h, λ h. h.1 (none_start b k e))
  part_to_holds r b (Some i) k key e =
      let cut = unless_holds (record { start = r.start; end = earlier_end order r.end i }) k key in
      let ends = end_both order lawful r.end i k key in
      let turned = flipped_end b i k e in (
        λ h. let g = cut.0 h in ((g.0, (ends.0 g.1).0), turned.0 (ends.0 g.1).1),
        λ h. cut.1 (h.0.0, ends.1 (h.0.1, turned.1 h.1)),
      )

  -- the part before another range holds the keys that the other's start does not
  pub before_holds : (r s : AnyRange K) (k : K) → order.is_key k
      → RangeHolds order (part_before order r s) k
      ↔ (Holds order r k × (¬ StartHolds order s.start k))
  before_holds r s k key = part_to_holds r s.start (flipped s.start) k key refl

  part_from_holds : (r : AnyRange K) (b : Bound K) (o : Option (Bound K)) (k : K) → order.is_key k
      → flipped b ≡ o → RangeHolds order (part_from order r o) k
      ↔ (Holds order r k × (¬ EndHolds order b k))
  part_from_holds r b None k key e = (λ h. absurd h, λ h. h.1 (none_end b k e))
  part_from_holds r b (Some i) k key e =
      let cut = unless_holds (record { start = later_start order r.start i; end = r.end }) k key in
      let starts = start_both order lawful r.start i k key in
      let turned = flipped_start b i k e in (
        λ h. let g = cut.0 h in (((starts.0 g.0).0, g.1), turned.0 (starts.0 g.0).1),
        λ h. cut.1 (starts.1 (h.0.0, turned.1 h.1), h.0.1),
      )

  pub after_holds : (r s : AnyRange K) (k : K) → order.is_key k
      → RangeHolds order (part_after order r s) k ↔ (Holds order r k × (¬ EndHolds order s.end k))
  after_holds r s k key = part_from_holds r s.end (flipped s.end) k key refl

  pieces_hold : (left right : Option (AnyRange K)) (met : Bool) (k : K)
      → DifferenceHolds order (pieces order left right met) k
      ↔ (RangeHolds order left k ⊎ RangeHolds order right k)
  pieces_hold left right met k = grind arith

  -- what holds no key of a range lies on one of its sides
  sides_hold : (r s : AnyRange K) (k : K) → order.is_key k
      → (RangeHolds order (part_before order r s) k ⊎ RangeHolds order (part_after order r s) k)
      ↔ (Holds order r k × (¬ Holds order s k))
  sides_hold r s k key =
      let before = before_holds r s k key in
      let after = after_holds r s k key in (
        λ h.
            elim h [
              | inl g ↦ ((before.0 g).0, λ held. (before.0 g).1 held.0)
              | inr g ↦ ((after.0 g).0, λ held. (after.0 g).1 held.1)
            ],
        λ h. elim (start_decided s.start k) [
          | inr outside ↦ inl (before.1 (h.0, outside))
          | inl starts ↦ inr (after.1 (h.0, λ ends. h.1 (starts, ends)))
        ],
      )

  difference_by : (r s : AnyRange K) (k : K) → order.is_key k → (d e : Bool)
      → is_empty_range order r ≡ d → is_empty_range order s ≡ e
      → DifferenceHolds order (if d then Empty
      else (if e then Before r false else pieces order (part_before order r s)
      (part_after order r s) (matches (range_ordering order r s) false))) k
      ↔ (Holds order r k × (¬ Holds order s k))
  difference_by r s k key true e f g = search (rules, empty_is_keyless, gt_is_greater)
  difference_by r s k key false true f g = search (rules, empty_is_keyless, gt_is_greater)
  difference_by r s k key false false f g =
      let whole =
      pieces_hold (part_before order r s) (part_after order r s)
      (matches (range_ordering order r s) false) k in
      let sides = sides_hold r s k key in
      (λ h. sides.0 (whole.0 h), λ h. whole.1 (sides.1 h))

  -- a range without another holds its keys outside the other
  pub difference_holds : (r s : AnyRange K) (k : K) → order.is_key k
      → DifferenceHolds order (difference order r s) k ↔ (Holds order r k × (¬ Holds order s k))
  difference_holds r s k key = search (rules, difference_by)

  pub before_below : (r s : AnyRange K) (a b : K) → order.is_key a → order.is_key b
      → RangeHolds order (part_before order r s) a → StartHolds order s.start b → Below order a b
  before_below r s a b key key' h g = start_splits s.start a b ((before_holds r s a key).0 h).1 g

  pub after_above : (r s : AnyRange K) (a b : K) → order.is_key a → order.is_key b
      → EndHolds order s.end a → RangeHolds order (part_after order r s) b → Below order a b
  after_above r s a b key key' g h = end_splits s.end a b g ((after_holds r s b key').0 h).1

  pieces_lie : (left right : Option (AnyRange K)) (met : Bool) (s : AnyRange K)
      → ((a b : K) → order.is_key a → order.is_key b → RangeHolds order left a → Holds order s b
      → Below order a b)
      → ((a b : K) → order.is_key a → order.is_key b → Holds order s a → RangeHolds order right b
      → Below order a b)
      → LieRound order (pieces order left right met) s
  pieces_lie left right met s f g = grind arith

  lie_by : (r s : AnyRange K) → (¬ IsEmptyRange order s) → (d e : Bool) → is_empty_range order r ≡ d
      → is_empty_range order s ≡ e
      → LieRound order (if d then Empty
      else (if e then Before r false else pieces order (part_before order r s)
      (part_after order r s) (matches (range_ordering order r s) false))) s
  lie_by r s full d e f g = grind (arith, pieces_lie, before_below, after_above)

  -- the parts lie on the sides of the other range that they say
  pub difference_lies : (r s : AnyRange K) → (¬ IsEmptyRange order s)
      → LieRound order (difference order r s) s
  difference_lies r s full = grind (arith, lie_by)
