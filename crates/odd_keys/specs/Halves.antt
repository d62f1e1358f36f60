-- Numbers of which the half counts, rounded down.
use Rattle.std.specs.Prelude.{ℕ, ◌*◌, ◌/◌}
use Rattle.std.proofs.Common.{arith, lit<}
use Rattle.btree_range_map.specs.Indexed.{indexed_order}
use Rattle.btree_range_map.specs.Order.{KeyOrder}
use Rattle.odd_keys.specs.Classes.{HasPlaces}
use Rattle.odd_keys.specs.declared.half.Half.{Half}

abbrev pub half_place : Half → ℕ
half_place k = k.0 / 2

abbrev pub half_at : ℕ → Half
half_at n = record { 0 = n * 2 }

abbrev pub half_order : KeyOrder Half
half_order = indexed_order half_place half_at 128

pub halves : HasPlaces half_place half_at 128
halves = record { place_key_at = λ n h. omega arith; some_key = lit< tt }
