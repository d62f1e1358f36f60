-- Numbers below 256 in a type that cannot be cloned.
use Rattle.std.specs.Prelude.{ℕ, refl}
use Rattle.std.proofs.Common.{arith, lit<}
use Rattle.btree_range_map.specs.Counted.{IsCounted}
use Rattle.btree_range_map.specs.Indexed.{indexed_order, indexed_counted}
use Rattle.btree_range_map.specs.Order.{KeyOrder}
use Rattle.odd_keys.specs.declared.single.Single.{Single}

abbrev pub single_number : Single → ℕ
single_number k = k.0

abbrev pub single_at : ℕ → Single
single_at n = record { 0 = n }

abbrev pub single_order : KeyOrder Single
single_order = indexed_order single_number single_at 256

pub single_counted : IsCounted single_order single_number 256
single_counted = indexed_counted {key_at = single_at} (record {
  key_at_index = λ k. refl;
  index_key_at = λ n h. refl;
  some_key = lit< tt;
})
