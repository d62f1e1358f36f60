-- What an address is in JSON: a string of its text, as std writes it, and read as std reads it.
use Rattle.std.specs.Prelude.{◌≡◌, ℕ, ◌<◌, Bool, List, Some, is_some, option_and_then}
use Rattle.std.specs.Int.{w32, w128, to_be_bytes}
use Rattle.std.specs.Net.Addr.{ipv4_bits, ipv6_bits, segments_of}
use Rattle.std.specs.Net.Grammar.{IsIpv4Text, IsIpv6Text}
use Rattle.std.specs.Net.Reader.{Read, read_ipv4, read_ipv6, whole_value}
use Rattle.std.specs.Net.Text.{ipv4_text, ipv6_text}
use Rattle.std.specs.declared.net.ipv4_addr.Ipv4Addr.{Ipv4Addr}
use Rattle.std.specs.declared.net.ipv6_addr.Ipv6Addr.{Ipv6Addr}
use Rattle.serde_json.specs.Data.{Data, string}
use Rattle.serde_json.specs.Find.{as_str}
use Rattle.address_keys.specs.declared.ipv4.Ipv4.{Ipv4}
use Rattle.address_keys.specs.declared.ipv6.Ipv6.{Ipv6}

abbrev pub ipv4_shape : Ipv4 → Data
ipv4_shape address = string (ipv4_text (to_be_bytes w32 address.0))

abbrev pub ipv6_shape : Ipv6 → Data
ipv6_shape address = string (ipv6_text (segments_of (to_be_bytes w128 address.0)))

-- the string has the text of the address
abbrev pub IsIpv4Read : Data → Ipv4 → Type 0
IsIpv4Read d address = (text : List ℕ) × (as_str d ≡ Some text) × (a : Ipv4Addr)
    × IsIpv4Text text a × (address.0 ≡ ipv4_bits a)

abbrev pub IsIpv6Read : Data → Ipv6 → Type 0
IsIpv6Read d address = (text : List ℕ) × (as_str d ≡ Some text) × (a : Ipv6Addr)
    × IsIpv6Text text a × (address.0 ≡ ipv6_bits a)

-- a string that the reader reads to its end
abbrev pub reads_whole : (List ℕ → Read (List ℕ)) → Data → Bool
reads_whole read d = is_some (option_and_then (λ text. whole_value (read text)) (as_str d))

abbrev pub reads_ipv4 : Data → Bool
reads_ipv4 = reads_whole read_ipv4

abbrev pub reads_ipv6 : Data → Bool
reads_ipv6 = reads_whole read_ipv6

-- the numbers that addresses have
abbrev pub IsIpv4Value : Ipv4 → Type 0
IsIpv4Value address = address.0 < 4294967296

abbrev pub IsIpv6Value : Ipv6 → Type 0
IsIpv6Value address = address.0 < 340282366920938463463374607431768211456
