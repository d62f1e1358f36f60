-- Tables whose prefixes are networks and lengths, and what they say of each number.
use Rattle.std.specs.Prelude.{◌≡◌, ℕ, ◌+◌, ◌-◌, ◌*◌, ◌≤◌, ◌<◌, ◌^◌, List, [], ◌∷◌, map, take, length, Option, Some, None}
use Rattle.shortest_tables.specs.Tables.{Table, route}
use Rattle.shortest_tables.specs.Numbers.{bits, number}
use Rattle.shortest_tables.specs.declared.entries.Entry.{Entry}

module _ {V : Type 0} where
  -- an entry's prefix is the first bits of its network
  abbrev pub entries : ℕ → List (Entry V) → Table V
  entries width es = map (λ e. (take e.length (bits width e.network), e.value)) es

  -- the table routes each address of so many bits as the map says
  abbrev pub RoutesAs : ℕ → (ℕ → Option V) → List (Entry V) → Type 0
  RoutesAs width f es = (n : ℕ) → n < 2 ^ width → route (entries width es) (bits width n) ≡ f n

  -- no table that routes each address so has fewer entries
  abbrev pub AreFewest : ℕ → (ℕ → Option V) → List (Entry V) → Type 0
  AreFewest width f es =
      (others : List (Entry V)) → RoutesAs width f others → length es ≤ length others

  -- its addresses are those of a prefix: 2^k of them, from a multiple of 2^k on
  abbrev pub IsBlock : ℕ → Entry V → Type 0
  IsBlock width e = (e.length ≤ width) × ((q : ℕ) × (e.network ≡ q * 2 ^ (width - e.length)))
      × (e.network + 2 ^ (width - e.length) ≤ 2 ^ width)

  -- the entries that a table of the 2^free addresses from a number on is
  abbrev pub placed : ℕ → ℕ → ℕ → Table V → List (Entry V)
  placed width free from [] = []
  placed width free from (e ∷ t) =
      record { network = number free from e.0; length = (width - free) + length e.0; value = e.1 }
      ∷ placed width free from t

  -- the entry of the empty prefix, where it has a value
  abbrev pub own : Option V → Table V
  own None = []
  own (Some v) = ([], v) ∷ []
