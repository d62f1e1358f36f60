-- How directed bounds compare.
use Rattle.std.specs.Prelude.{Option, Some, None, Bool, true, false}
use Rattle.std.specs.declared.cmp.Ordering.{Ordering}
use Rattle.std.specs.declared.cmp.Ordering.TheVariants.{Less, Equal, Greater}
use Rattle.std.specs.declared.ops.Bound.{Bound}
use Rattle.std.specs.Borrow.{Bor}
use Rattle.std.specs.Ordering.{is_eq}
use Rattle.range_keys.specs.Order.{KeyOrder}
use Rattle.range_keys.specs.Position.{bound_of, start_position, end_position, position_cmp}
use Rattle.range_keys.specs.declared.inner.position.Side.TheVariants.{Before, At, After}
use Rattle.range_keys.specs.declared.inner.position.Position.{Position}
use Rattle.range_keys.specs.declared.inner.position.Position.TheVariants.{Beside}
use Rattle.range_keys.specs.declared.bound.Directed.{Directed}
use Rattle.range_keys.specs.declared.bound.Directed.TheVariants.{Start, End}
use Rattle.range_keys.specs.declared.bound.BoundOrdering.{BoundOrdering}
use Rattle.range_keys.specs.declared.bound.BoundOrdering.TheVariants.{Included, Excluded}

abbrev pub directed_map : {A B : Type 0} → (A → B) → Directed A → Directed B
directed_map f (Start b) = Start (f b)
directed_map f (End b) = End (f b)

abbrev pub directed_value : {A : Type 0} → Directed A → A
directed_value (Start b) = b
directed_value (End b) = b

module _ {K : Type 0} (order : KeyOrder K) where
  abbrev pub directed_position : Directed (Bound K) → Position K
  directed_position (Start b) = start_position order b
  directed_position (End b) = end_position order b

  -- the same, of bounds under references
  abbrev pub reference_position : Directed (Bound (Bor K)) → Position K
  reference_position d = directed_position (directed_map bound_of d)

  -- the option has a value that equals the key
  abbrev pub tells : Option K → K → Bool
  tells None k = false
  tells (Some x) k = is_eq (order.cmp x k)

  -- no bound of the type can lie between the first position and the second, which is greater
  abbrev pub are_adjacent : Position K → Position K → Bool
  are_adjacent (Beside a Before) (Beside b At) = is_eq (order.cmp a b)
  are_adjacent (Beside a At) (Beside b After) = is_eq (order.cmp a b)
  are_adjacent (Beside a At) (Beside b At) = tells (order.succ a) b
  are_adjacent p q = false

  -- a greater position lies on the inner side of a start and on the outer side of an end
  abbrev pub ordering_to : Directed (Bound K) → Position K → Position K → Ordering → BoundOrdering
  ordering_to other p q Equal = Included true
  ordering_to (Start b) p q Greater = Included false
  ordering_to (Start b) p q Less = Excluded (are_adjacent p q)
  ordering_to (End b) p q Greater = Excluded (are_adjacent q p)
  ordering_to (End b) p q Less = Included false

  abbrev pub bound_ordering : Directed (Bound K) → Directed (Bound K) → BoundOrdering
  bound_ordering self other =
      ordering_to other (directed_position self) (directed_position other)
      (position_cmp order.cmp (directed_position self) (directed_position other))
