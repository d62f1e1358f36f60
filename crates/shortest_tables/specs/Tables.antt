-- Tables of prefixes: where they route each address, and when no shorter one does the same.
use Rattle.std.specs.Prelude.{◌≡◌, ℕ, ◌≤◌, Bool, true, false, not, ◌&&◌, if◌then◌else◌, List, [], ◌∷◌, length, Option, Some, None}

-- an address, or the prefix of some: its bits, from the highest on
abbrev pub Bits : Type 0
Bits = List Bool

-- prefixes, each with a value
abbrev pub Table : Type 0 → Type 0
Table V = List (Bits × V)

-- two bits are equal
abbrev pub same : Bool → Bool → Bool
same true b = b
same false b = not b

-- the prefix holds the address, which begins with its bits
abbrev pub holds : Bits → Bits → Bool
holds [] a = true
holds (b ∷ p) [] = false
holds (b ∷ p) (c ∷ a) = same b c && holds p a

-- one prefix has fewer bits than another
abbrev pub shorter : Bits → Bits → Bool
shorter p [] = false
shorter [] (c ∷ q) = true
shorter (b ∷ p) (c ∷ q) = shorter p q

module _ {V : Type 0} where
  -- of two entries the one whose prefix is longer, or the first
  abbrev pub longer : Bits × V → Option (Bits × V) → Option (Bits × V)
  longer e None = Some e
  longer e (Some d) = if shorter e.0 d.0 then Some d else Some e

  -- of the entries that hold the address, the one whose prefix is the longest
  abbrev pub longest : Table V → Bits → Option (Bits × V)
  longest [] a = None
  longest (e ∷ t) a = if holds e.0 a then longer e (longest t a) else longest t a

  abbrev pub value_of : Option (Bits × V) → Option V
  value_of None = None
  value_of (Some e) = Some e.1

  -- where the table routes the address: to the value of the longest prefix that holds it
  abbrev pub route : Table V → Bits → Option V
  route t a = value_of (longest t a)

  -- the table routes each address of so many bits as the map says
  abbrev pub IsTableOf : ℕ → (Bits → Option V) → Table V → Type 0
  IsTableOf width f t = (a : Bits) → length a ≡ width → route t a ≡ f a

  -- no table that routes each address so is shorter
  abbrev pub IsShortest : ℕ → (Bits → Option V) → Table V → Type 0
  IsShortest width f t = (others : Table V) → IsTableOf width f others → length t ≤ length others
