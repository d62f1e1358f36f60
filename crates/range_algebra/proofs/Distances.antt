-- The measure between two places in the order of the keys, which adds up and fits.
use Rattle.std.proofs.Common.{◌≡◌, ℕ, ◌+◌, ◌-◌, ◌<◌, ◌^◌, arith}
use Rattle.range_keys.specs.Order.{KeyOrder, IsLawful, IsMeasure}
use Rattle.range_keys.specs.Position.{position_cmp}
use Rattle.range_keys.specs.declared.inner.position.Position.{Position}
use Rattle.range_keys.specs.declared.inner.position.Position.TheVariants.{MinusInfinity, Beside, PlusInfinity}
use Rattle.range_keys.specs.declared.inner.position.Side.{Side}
use Rattle.range_keys.specs.declared.inner.position.Side.TheVariants.{Before, At, After}
use Rattle.range_algebra.specs.Intervals.{Le}

module _ {K : Type 0} (order : KeyOrder K) (lawful : IsLawful order) (len : K → ℕ)
    (distance : K → K → ℕ) (measured : IsMeasure order len distance) where
  -- at a key or just after it
  unfoldable pub IsPlace : Position K → Type 0
  IsPlace MinusInfinity = ⊥
  IsPlace (Beside a Before) = ⊥
  IsPlace (Beside a At) = order.is_key a
  IsPlace (Beside a After) = order.is_key a
  IsPlace PlusInfinity = ⊥

  -- the length of the key that the place lies after
  passed : K → Side → ℕ
  passed a Before = 0
  passed a At = 0
  passed a After = len a

  -- the measure from one place to another
  unfoldable pub gap : Position K → Position K → ℕ
  unfolding passed
  gap (Beside a s) (Beside b t) = distance a b + passed b t - passed a s
  gap (Beside a s) MinusInfinity = 0
  gap (Beside a s) PlusInfinity = 0
  gap MinusInfinity q = 0
  gap PlusInfinity q = 0

  pub gap_adds : (p q r : Position K) → IsPlace p → IsPlace q → IsPlace r
      → Le (position_cmp order.cmp) p q → Le (position_cmp order.cmp) q r
      → gap p q + gap q r ≡ gap p r
  unfolding gap IsPlace
  gap_adds p q r i j k h l = grind arith

  pub gap_fits : (p q : Position K) → IsPlace p → IsPlace q → Le (position_cmp order.cmp) p q
      → gap p q < 2 ^ 128
  unfolding gap IsPlace
  gap_fits p q i j h = grind arith
