-- Address families: the addresses are all numbers of so many bits.
use Rattle.std.specs.Prelude.{◌≡◌, ℕ, ◌^◌, ◌≤◌, ◌<◌}
use Rattle.std.specs.Ordering.{nat_cmp}
use Rattle.btree_range_map.specs.Counted.{IsCounted}
use Rattle.btree_range_map.specs.Order.{KeyOrder}

pub record IsFamily {A : Type 0} (order : KeyOrder A) (number : A → ℕ) (at : ℕ → A)
    (width : ℕ) : Type 0 where
  pub counted : IsCounted order number (2 ^ width)
  pub by_number : (a b : A) → order.cmp a b ≡ nat_cmp (number a) (number b)
  pub is_address : (a : A) → number a < 2 ^ width → order.is_key a
  pub at_number : (n : ℕ) → n < 2 ^ width → number (at n) ≡ n
  pub small : width ≤ 128
