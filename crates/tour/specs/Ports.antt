-- Ports, numbered from 0 on.
use Rattle.std.specs.Prelude.{ℕ, refl}
use Rattle.std.proofs.Common.{lit<}
use Rattle.btree_range_map.specs.Counted.{IsCounted}
use Rattle.btree_range_map.specs.Indexed.{indexed_order, indexed_counted}
use Rattle.btree_range_map.specs.Order.{KeyOrder}
use Rattle.tour.specs.declared.access.port.Port.{Port}

abbrev pub port_number : Port → ℕ
port_number port = port.0

abbrev pub port_at : ℕ → Port
port_at n = record { 0 = n }

abbrev pub port_order : KeyOrder Port
port_order = indexed_order port_number port_at 65536

pub ports_counted : IsCounted port_order port_number 65536
ports_counted =
    indexed_counted {key_at = port_at}
    (record { key_at_index = λ port. refl; index_key_at = λ n h. refl; some_key = lit< tt })
