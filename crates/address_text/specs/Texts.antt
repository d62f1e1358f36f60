-- Addresses of both families as numbers, and their texts.
use Rattle.std.specs.Prelude.{◌≡◌, ◌==◌, if◌then◌else◌, ℕ, List, [], ◌∷◌, ◌++◌, codes, decimal}
use Rattle.std.specs.Int.{w32, w128, to_be_bytes}
use Rattle.std.specs.Net.Addr.{ipv4_bits, ipv6_bits, segments_of}
use Rattle.std.specs.Net.Grammar.{IsIpv4Text, IsIpv6Text}
use Rattle.std.specs.Net.Text.{ipv4_text, ipv6_text}
use Rattle.std.specs.declared.net.ipv4_addr.Ipv4Addr.{Ipv4Addr}
use Rattle.std.specs.declared.net.ipv6_addr.Ipv6Addr.{Ipv6Addr}
use Rattle.address_text.specs.declared.family.Family.{Family}
use Rattle.address_text.specs.declared.family.Family.TheVariants.{V4, V6}

-- how many bits an address has
abbrev pub width : Family → ℕ
width V4 = 32
width V6 = 128

-- the text writes the address with these bits
abbrev pub IsAddressText : Family → List ℕ → ℕ → Type 0
IsAddressText V4 text n = (a : Ipv4Addr) × IsIpv4Text text a × (n ≡ ipv4_bits a)
IsAddressText V6 text n = (a : Ipv6Addr) × IsIpv6Text text a × (n ≡ ipv6_bits a)

-- the text of an address that is printed: of IPv6 the shortest (RFC 5952)
abbrev pub address_text : Family → ℕ → List ℕ
address_text V4 n = ipv4_text (to_be_bytes w32 n)
address_text V6 n = ipv6_text (segments_of (to_be_bytes w128 n))

-- a line with a text before it and one behind it
module _ (before after : List ℕ) where
  -- `network/length`
  abbrev pub prefix_line : Family → ℕ → ℕ → List ℕ
  prefix_line family network length =
      before ++ address_text family network ++ codes "/" ++ decimal length ++ after ++ 10 ∷ []

  -- `first-last`
  abbrev pub range_line : Family → ℕ → ℕ → List ℕ
  range_line family first last =
      before ++ address_text family first ++ codes "-" ++ address_text family last ++ after
      ++ 10 ∷ []

  -- an address alone
  abbrev pub address_line : Family → ℕ → List ℕ
  address_line family n = before ++ address_text family n ++ after ++ 10 ∷ []

  -- `first-last`, or an address alone where both are the same
  abbrev pub span_line : Family → ℕ → ℕ → List ℕ
  span_line family first last =
      if first == last then address_line family first else range_line family first last
