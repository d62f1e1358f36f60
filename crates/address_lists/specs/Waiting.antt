-- Addresses that are read and not added yet.
use Rattle.std.specs.Prelude.{◌≡◌, ℕ, ◌≤◌, ◌⊎◌, ◌↔◌, List, map}
use Rattle.address_keys.specs.Addresses.{ipv4_number, ipv6_number}
use Rattle.address_text.specs.Lines.{SaysAddress}
use Rattle.address_text.specs.declared.family.Family.{Family}
use Rattle.address_text.specs.declared.family.Family.TheVariants.{V4, V6}
use Rattle.address_text.specs.declared.line.Line.{Line}
use Rattle.address_text.specs.declared.line.Line.TheVariants.{Addresses as AddressesOf}
use Rattle.address_lists.specs.Lists.{Has, IsListed}
use Rattle.address_lists.specs.declared.addresses.Addresses.{Addresses}
use Rattle.address_lists.specs.declared.spans.Span.{Span}
use Rattle.address_lists.specs.declared.spans.Waiting.{Waiting}

abbrev pub line_of : {A : Type 0} → Family → (A → ℕ) → Span A → Line
line_of family number span = AddressesOf family (number span.0) (number span.1)

-- the list has the address, or one of the lines says it
abbrev pub HasOrSays : Addresses → List Line → Family → ℕ → Type 0
HasOrSays list lines family n = Has list family n ⊎ IsListed family n lines

-- the list has the address, or it waits
abbrev pub HasSoFar : Addresses → Waiting → Family → ℕ → Type 0
HasSoFar list waiting family n = Has list family n
    ⊎ (SaysAddress family n waiting.last
    ⊎ (IsListed family n (map (line_of V4 ipv4_number) waiting.v4.items)
    ⊎ IsListed family n (map (line_of V6 ipv6_number) waiting.v6.items)))

-- the one line says what the two do
abbrev pub IsTogether : Line → Line → Line → Type 0
IsTogether first second line = (family : Family) (n : ℕ)
    → SaysAddress family n line ↔ (SaysAddress family n first ⊎ SaysAddress family n second)

-- the numbers from `first` to `last` are those from `start` to `end` and those from `from` to `to`
pub record Spans (start end from to first last : ℕ) : Type 0 where
  pub numbers : (n : ℕ) → ((first ≤ n) × (n ≤ last))
      ↔ (((start ≤ n) × (n ≤ end)) ⊎ ((from ≤ n) × (n ≤ to)))
  pub starts : first ≡ start
  pub ends : (last ≡ end) ⊎ (last ≡ to)
