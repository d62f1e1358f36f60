-- Whether a list has an address, and the addresses around it.
use Rattle.std.specs.Prelude.{◌≡◌, ℕ, ◌^◌, List, [], ◌∷◌, ◌++◌, Option, None, Some, MatchOption, codes}
use Rattle.std.specs.Net.Addr.{ipv4_bits, ipv6_bits}
use Rattle.std.specs.Net.Text.{ip_text}
use Rattle.std.specs.declared.net.ip_addr.IpAddr.{IpAddr}
use Rattle.std.specs.declared.net.ip_addr.IpAddr.TheVariants as Ip
use Rattle.address_prefixes.specs.Runs.{IsRunAround}
use Rattle.address_text.specs.Texts.{span_line, width}
use Rattle.address_text.specs.declared.family.Family.{Family}
use Rattle.address_text.specs.declared.family.Family.TheVariants.{V4, V6}
use Rattle.address_lists.specs.Lists.{Has}
use Rattle.address_lists.specs.declared.addresses.Addresses.{Addresses}

abbrev pub ip_family : IpAddr → Family
ip_family (Ip.V4 address) = V4
ip_family (Ip.V6 address) = V6

abbrev pub ip_bits : IpAddr → ℕ
ip_bits (Ip.V4 address) = ipv4_bits address
ip_bits (Ip.V6 address) = ipv6_bits address

-- the list has the address
abbrev pub HasIp : Addresses → IpAddr → Type 0
HasIp list address = Has list (ip_family address) (ip_bits address)

-- the first and the last of the addresses that follow each other around one in the list, if it has
-- the address
abbrev pub IsRunOf : Addresses → IpAddr → Option (ℕ × ℕ) → Type 0
IsRunOf list address run =
    MatchOption run (¬ HasIp list address)
    (λ ends. IsRunAround (Has list (ip_family address)) (2 ^ width (ip_family address))
    (ip_bits address) ends)

-- `address first-last`, or `address -` where there is none
abbrev pub run_line : IpAddr → Option (ℕ × ℕ) → List ℕ
run_line address None = ip_text address ++ codes " -" ++ 10 ∷ []
run_line address (Some ends) =
    (ip_text address ++ codes " ") ++ span_line [] [] (ip_family address) ends.0 ends.1

-- the line that tells where the list has the address
abbrev pub IsLookup : Addresses → IpAddr → List ℕ → Type 0
IsLookup list address line =
    (run : Option (ℕ × ℕ)) × IsRunOf list address run × (line ≡ run_line address run)

-- `address in first-last`, or `address out` where there is none
abbrev pub told_line : IpAddr → Option (ℕ × ℕ) → List ℕ
told_line address None = ip_text address ++ codes " out" ++ 10 ∷ []
told_line address (Some ends) =
    (ip_text address ++ codes " in ") ++ span_line [] [] (ip_family address) ends.0 ends.1

-- the line that tells whether the list has the address
abbrev pub IsTold : Addresses → IpAddr → List ℕ → Type 0
IsTold list address line =
    (run : Option (ℕ × ℕ)) × IsRunOf list address run × (line ≡ told_line address run)
