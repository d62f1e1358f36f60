-- Addresses looked up one after the other.
use Rattle.std.proofs.Common.{◌≡◌, ℕ, ◌<◌, ◌^◌, ◌↔◌, Option, None, Some, MatchOption, refl, arith}
use Rattle.std.specs.Prelude.{IsTrue, is_some}
use Rattle.std.specs.declared.net.ip_addr.IpAddr.{IpAddr}
use Rattle.std.specs.Net.Addr.{ipv4_bits, ipv6_bits}
use Rattle.std.specs.declared.net.ip_addr.IpAddr.TheVariants as Ip
use Rattle.std.specs.declared.net.ipv4_addr.Ipv4Addr.{Ipv4Addr}
use Rattle.std.specs.declared.net.ipv6_addr.Ipv6Addr.{Ipv6Addr}
use Rattle.address_prefixes.specs.Runs.{IsRunAround}
use Rattle.address_text.specs.Texts.{width}
use Rattle.address_text.specs.declared.family.Family.TheVariants.{V4, V6}
use Rattle.address_lists.specs.Lists.{Has}
use Rattle.address_lists.specs.Lookups.{HasIp, IsRunOf, ip_family}
use Rattle.address_lists.specs.declared.addresses.Addresses.{Addresses}
use Rattle.std.proofs.lemmas.Bool.{false≢true}

module _ (list : Addresses) (address : IpAddr) where
  -- there is a run just where the list has the address
  pub run_tells : (run : Option (ℕ × ℕ)) → IsRunOf list address run
      → IsTrue (is_some run) ↔ HasIp list address
  run_tells None found = (λ yes. absurd (false≢true yes), λ has. absurd (found has))
  run_tells (Some ends) found = (λ yes. found.1.each _ found.0, λ has. refl)

  -- its ends are addresses
  pub run_fits : (run : Option (ℕ × ℕ)) → IsRunOf list address run
      → MatchOption run (Unit {0}) (λ ends. (ends.0 < 2 ^ width (ip_family address))
      × (ends.1 < 2 ^ width (ip_family address)))
  run_fits None found = tt
  run_fits (Some ends) found = grind arith

-- the run around an address, by its bits
pub of_v4 : (list : Addresses) (address : Ipv4Addr) (bits : ℕ) (run : Option (ℕ × ℕ))
    → bits ≡ ipv4_bits address
    → MatchOption run (¬ Has list V4 bits) (λ ends. IsRunAround (Has list V4) (2 ^ 32) bits ends)
    → IsRunOf list (Ip.V4 address) run
of_v4 list address bits run same found = grind arith

pub of_v6 : (list : Addresses) (address : Ipv6Addr) (bits : ℕ) (run : Option (ℕ × ℕ))
    → bits ≡ ipv6_bits address
    → MatchOption run (¬ Has list V6 bits) (λ ends. IsRunAround (Has list V6) (2 ^ 128) bits ends)
    → IsRunOf list (Ip.V6 address) run
of_v6 list address bits run same found = grind arith
