-- How prefixes with values cross to C.
use Rattle.std.specs.Prelude.{◌≡◌, ℕ}
use Rattle.address_keys.specs.Addresses.{ipv6_number}
use Rattle.address_keys.specs.declared.ipv6.Ipv6.{Ipv6}
use Rattle.address_prefixes.specs.Prefixes.{HasAddress, IsPrefix}
use Rattle.address_tables.specs.declared.entries.Entry.{Entry}
use Rattle.range_ffi.specs.Wide.{wide_key}
use Rattle.table_handles.specs.declared.prefix.WidePrefix.{WidePrefix}

-- the network, the length and the value that are said
abbrev pub told : WidePrefix → Ipv6 × ℕ × ℕ
told p = (wide_key p.network, p.length, p.value)

-- those of an entry
abbrev pub parts : Entry Ipv6 ℕ → Ipv6 × ℕ × ℕ
parts e = (e.prefix.network, e.prefix.length, e.value)

-- the entry has the prefix of that length in which the network lies, and the value
pub record IsMeant (p : WidePrefix) (e : Entry Ipv6 ℕ) : Type 0 where
  pub prefix : IsPrefix ipv6_number 128 e.prefix
  pub inside : HasAddress ipv6_number (wide_key p.network) e.prefix
  pub length : e.prefix.length ≡ p.length
  pub value : e.value ≡ p.value
