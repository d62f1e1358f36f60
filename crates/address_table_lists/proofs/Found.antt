-- The stored range that holds an address, in either family.
use Rattle.std.proofs.Common.{◌↔◌, Option, None, Some}
use Rattle.std.specs.Prelude.{IsTrue, is_some}
use Rattle.std.specs.Net.Addr.{ipv4_bits, ipv6_bits}
use Rattle.std.specs.declared.net.ip_addr.IpAddr.{IpAddr}
use Rattle.std.specs.declared.net.ip_addr.IpAddr.TheVariants as Ip
use Rattle.btree_range_map.specs.Holding.{box_items}
use Rattle.address_keys.specs.Addresses.{ipv4_at, ipv4_family, ipv6_at, ipv6_family}
use Rattle.address_lists.specs.Lookups.{ip_family}
use Rattle.address_table_lists.specs.Lookups.{FitIn, HasValue, IsFoundIn}
use Rattle.address_table_lists.specs.declared.lookup.Stored.{Stored}
use Rattle.address_table_lists.specs.declared.table.Table.{Table}
use Rattle.address_table_lists.proofs.Stored.{stored_tells}

module _ (table : Table) where
  pub found_tells : (address : IpAddr) (stored : Option Stored) → IsFoundIn table address stored
      → IsTrue (is_some stored) ↔ HasValue table address
  found_tells (Ip.V4 address) stored found =
      stored_tells ipv4_family (box_items table.v4) (ipv4_at (ipv4_bits address)) stored found
  found_tells (Ip.V6 address) stored found =
      stored_tells ipv6_family (box_items table.v6) (ipv6_at (ipv6_bits address)) stored found

  pub found_fits : (address : IpAddr) (stored : Option Stored) → IsFoundIn table address stored
      → FitIn (ip_family address) stored
  found_fits address None found = tt
  found_fits (Ip.V4 address) (Some stored) found = (found.first_fits, found.last_fits)
  found_fits (Ip.V6 address) (Some stored) found = (found.first_fits, found.last_fits)
