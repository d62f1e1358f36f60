-- The two families: addresses are numbered from 0 on.
use Rattle.std.specs.Prelude.{ℕ, refl}
use Rattle.std.proofs.Common.{lit<, lit≤}
use Rattle.btree_range_map.specs.Counted.{IsCounted}
use Rattle.btree_range_map.specs.Indexed.{indexed_counted, indexed_order}
use Rattle.btree_range_map.specs.Order.{KeyOrder}
use Rattle.address_keys.specs.Families.{IsFamily}
use Rattle.address_keys.specs.declared.ipv4.Ipv4.{Ipv4}
use Rattle.address_keys.specs.declared.ipv6.Ipv6.{Ipv6}

abbrev pub ipv4_number : Ipv4 → ℕ
ipv4_number address = address.0

abbrev pub ipv4_at : ℕ → Ipv4
ipv4_at n = record { 0 = n }

abbrev pub ipv4_order : KeyOrder Ipv4
ipv4_order = indexed_order ipv4_number ipv4_at 4294967296

pub ipv4_counted : IsCounted ipv4_order ipv4_number 4294967296
ipv4_counted =
    indexed_counted {key_at = ipv4_at}
    (record { key_at_index = λ address. refl; index_key_at = λ n h. refl; some_key = lit< tt })

pub ipv4_family : IsFamily ipv4_order ipv4_number ipv4_at 32
ipv4_family = record {
  counted = ipv4_counted;
  by_number = λ a b. refl;
  is_address = λ a h. h;
  at_number = λ n h. refl;
  small = lit≤ tt;
}

abbrev pub ipv6_number : Ipv6 → ℕ
ipv6_number address = address.0

abbrev pub ipv6_at : ℕ → Ipv6
ipv6_at n = record { 0 = n }

abbrev pub ipv6_order : KeyOrder Ipv6
ipv6_order = indexed_order ipv6_number ipv6_at 340282366920938463463374607431768211456

pub ipv6_counted : IsCounted ipv6_order ipv6_number 340282366920938463463374607431768211456
ipv6_counted =
    indexed_counted {key_at = ipv6_at}
    (record { key_at_index = λ address. refl; index_key_at = λ n h. refl; some_key = lit< tt })

pub ipv6_family : IsFamily ipv6_order ipv6_number ipv6_at 128
ipv6_family = record {
  counted = ipv6_counted;
  by_number = λ a b. refl;
  is_address = λ a h. h;
  at_number = λ n h. refl;
  small = lit≤ tt;
}
