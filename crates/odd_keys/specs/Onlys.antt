-- One key.
use Rattle.std.specs.Prelude.{ℕ, refl}
use Rattle.std.proofs.Common.{arith, lit<}
use Rattle.btree_range_map.specs.Counted.{IsCounted}
use Rattle.btree_range_map.specs.Indexed.{indexed_order, indexed_counted}
use Rattle.btree_range_map.specs.Order.{KeyOrder}
use Rattle.odd_keys.specs.declared.only.Only.{Only}

abbrev pub only_number : Only → ℕ
only_number _ = 0

abbrev pub only_at : ℕ → Only
only_at _ = record {}

abbrev pub only_order : KeyOrder Only
only_order = indexed_order only_number only_at 1

pub only_counted : IsCounted only_order only_number 1
only_counted =
    indexed_counted {key_at = only_at}
    (record { key_at_index = λ k. refl; index_key_at = λ n h. omega arith; some_key = lit< tt })
