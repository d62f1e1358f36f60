-- A range of keys that can be counted has a least and a greatest key, where it holds one.
use Rattle.std.specs.Prelude.{◌≡◌, ℕ, zero, suc, ◌+◌, ◌-◌, ◌≤◌, ◌<◌, false}
use Rattle.std.specs.Ordering.{nat_cmp, is_gt}
use Rattle.std.proofs.Common.{ap, ◌∙◌, arith}
use Rattle.std.proofs.lemmas.Bool.Decides.{nat_tests}
use Rattle.btree_range_map.specs.AnyRange.{AnyRange}
use Rattle.btree_range_map.specs.Order.{KeyOrder, NotAbove}
use Rattle.btree_range_map.specs.Counted.{IsCounted}
use Rattle.btree_range_map.specs.Range.{Holds}
use Rattle.btree_range_map.specs.Extremes.{HasNoLeast, HasNoGreatest}

not_above : (a b : ℕ) → a ≤ b → is_gt (nat_cmp a b) ≡ false
not_above a b f = grind (arith, nat_tests)

module _ {K : Type 0} (order : KeyOrder K) (index : K → ℕ) (size : ℕ)
    (counted : IsCounted order index size) where
  is_least : (a b : K) → order.is_key a → order.is_key b → index a ≤ index b → NotAbove order a b
  is_least a b p q h = ap is_gt (counted.by_index a b p q) ∙ not_above (index a) (index b) h

  least_within : (n : ℕ) (r : AnyRange K) (k : K) → order.is_key k → index k < n → Holds order r k
      → HasNoLeast order r → ⊥
  least_within zero r k key small held none = absurd (omega arith)
  least_within (suc n) r k key small held none =
      none k key (
        held,
        λ j other within.
            let above : index j < index k → ⊥ =
            λ less. least_within n r j other (omega arith) within none in
            is_least k j key other (omega (arith, above)),
      )

  pub has_least : (r : AnyRange K) (k : K) → order.is_key k → Holds order r k → HasNoLeast order r
      → ⊥
  has_least r k key held none = least_within (index k + 1) r k key (omega arith) held none

  greatest_within : (n : ℕ) (r : AnyRange K) (k : K) → order.is_key k → size - index k < n
      → Holds order r k → HasNoGreatest order r → ⊥
  greatest_within zero r k key small held none = absurd (omega arith)
  greatest_within (suc n) r k key small held none =
      none k key (
        held,
        λ j other within.
            let in_size : index j < size = counted.in_size j other in
            let below : index k < index j → ⊥ =
            λ more. greatest_within n r j other (omega arith) within none in
            is_least j k other key (omega (arith, below)),
      )

  pub has_greatest : (r : AnyRange K) (k : K) → order.is_key k → Holds order r k
      → HasNoGreatest order r → ⊥
  has_greatest r k key held none =
      greatest_within (size - index k + 1) r k key (omega arith) held none
