-- What the flag of a comparison says: no bound over keys lies between the two.
use Rattle.std.specs.Prelude.{◌≡◌, Bool, MatchBool}
use Rattle.std.specs.declared.cmp.Ordering.TheVariants.{Less}
use Rattle.std.specs.declared.ops.Bound.{Bound}
use Rattle.std.specs.declared.ops.Bound.TheVariants.{Included, Excluded, Unbounded}
use Rattle.range_keys.specs.Order.{KeyOrder}
use Rattle.range_keys.specs.Position.{start_position, end_position, position_cmp}
use Rattle.range_keys.specs.Directed.{directed_value, directed_position, bound_ordering}
use Rattle.range_keys.specs.declared.inner.position.Position.{Position}
use Rattle.range_keys.specs.declared.bound.BoundOrdering.TheVariants.{Excluded as Outer}
use Rattle.range_keys.specs.declared.bound.Directed.{Directed}
use Rattle.range_keys.specs.declared.bound.Directed.TheVariants.{Start, End}

module _ {K : Type 0} (order : KeyOrder K) where
  -- the key that the bound names, if it names one, is one
  abbrev pub IsOverKeys : Bound K → Type 0
  IsOverKeys (Included a) = order.is_key a
  IsOverKeys (Excluded a) = order.is_key a
  IsOverKeys Unbounded = Unit {0}

  abbrev pub LiesBelow : Position K → Position K → Type 0
  LiesBelow p q = position_cmp order.cmp p q ≡ Less

  -- some bound over keys has a position above the first and below the second
  abbrev pub SomeBoundBetween : Position K → Position K → Type 0
  SomeBoundBetween low high =
      (d : Directed (Bound K)) × IsOverKeys (directed_value d)
      × LiesBelow low (directed_position order d) × LiesBelow (directed_position order d) high

  -- a bound over keys lies between the two, of which the first lies on the outer side of the second
  abbrev pub SomeBoundApart : Directed (Bound K) → Directed (Bound K) → Type 0
  SomeBoundApart self (Start b) =
      SomeBoundBetween (directed_position order self) (start_position order b)
  SomeBoundApart self (End b) =
      SomeBoundBetween (end_position order b) (directed_position order self)

  -- a flag is true where no bound lies between the two, and false where one does
  abbrev pub FlagsTellGaps : Type 0
  FlagsTellGaps = (self other : Directed (Bound K)) → IsOverKeys (directed_value self)
      → IsOverKeys (directed_value other)
      → (flag : Bool) → bound_ordering order self other ≡ Outer flag
      → MatchBool flag (¬ SomeBoundApart self other) (SomeBoundApart self other)
