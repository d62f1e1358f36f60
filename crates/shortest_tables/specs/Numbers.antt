-- Addresses by their numbers, and maps of numbers as spans.
use Rattle.std.specs.Prelude.{◌≡◌, ℕ, zero, suc, ◌+◌, ◌-◌, ◌≤◌, ◌<◌, ◌^◌, ◌&&◌, if◌then◌else◌, nat_le, List, [], ◌∷◌, Option, Some, IfSome}
use Rattle.shortest_tables.specs.Tables.{Bits}
use Rattle.shortest_tables.specs.Labels.{Labels, Unbound, Among}
use Rattle.shortest_tables.specs.declared.spans.Span.{Span}

-- the lowest bits of a number, from the highest of them on
abbrev pub bits : ℕ → ℕ → Bits
bits zero n = []
bits (suc width) n =
    nat_le (2 ^ width) n ∷ bits width (if nat_le (2 ^ width) n then n - 2 ^ width else n)

-- the number of the address with these bits among the 2^free from a number on
abbrev pub number : ℕ → ℕ → Bits → ℕ
number zero from a = from
number (suc free) from [] = from
number (suc free) from (b ∷ a) = number free (if b then from + 2 ^ free else from) a

module _ {V : Type 0} where
  -- the value of the first span that has the number, or what there is where none has it
  abbrev pub value_at : Option V → List (Span V) → ℕ → Option V
  value_at otherwise [] n = otherwise
  value_at otherwise (s ∷ spans) n =
      if nat_le s.first n && nat_le n s.last then Some s.value else value_at otherwise spans n

  -- the values of the 2^free addresses from a number on
  abbrev pub block : Option V → List (Span V) → ℕ → ℕ → Bits → Option V
  block otherwise spans free from a = value_at otherwise spans (number free from a)

  -- they are all the same
  abbrev pub IsUniform : Option V → List (Span V) → ℕ → ℕ → Option V → Type 0
  IsUniform otherwise spans free from x = (n : ℕ) → (from ≤ n) × (n < from + 2 ^ free)
      → value_at otherwise spans n ≡ x

  -- labels as a list of values, which is empty where an address is unbound
  abbrev pub as_labels : List V → Labels V
  as_labels [] = Unbound
  as_labels (v ∷ vs) = Among v vs

-- each span starts after the one before it has ended, the first at a number or after it, and all
-- values are below a bound
abbrev pub AreAscending : ℕ → ℕ → List (Span ℕ) → Type 0
AreAscending count from [] = Unit {0}
AreAscending count from (s ∷ spans) = (from ≤ s.first) × (s.first ≤ s.last) × (s.value < count)
    × AreAscending count (s.last + 1) spans

-- likewise, but the first of them may start before the number, and ends at it or after it
abbrev pub AreLeft : ℕ → ℕ → List (Span ℕ) → Type 0
AreLeft count from [] = Unit {0}
AreLeft count from (s ∷ spans) = (from ≤ s.last) × (s.first ≤ s.last) × (s.value < count)
    × AreAscending count (s.last + 1) spans

-- a value is below the bound
abbrev pub IsNumbered : ℕ → Option ℕ → Type 0
IsNumbered count x = IfSome x (λ v. v < count)
