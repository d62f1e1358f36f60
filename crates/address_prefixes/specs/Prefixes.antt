-- What the prefixes of a set are: just its addresses, in order, and as few as can be.
use Rattle.std.specs.Prelude.{◌≡◌, ℕ, ◌+◌, ◌-◌, ◌*◌, ◌^◌, ◌≤◌, ◌<◌, List, ◌↔◌, length}
use Rattle.std.specs.List.{AllByRecursion}
use Rattle.btree_range_map.specs.Intervals.{Any}
use Rattle.btree_range_map.specs.Range.{Holds}
use Rattle.btree_range_map.specs.AnyRange.{AnyRange}
use Rattle.btree_range_map.specs.Neighbours.{EachNext}
use Rattle.btree_range_map.specs.Order.{KeyOrder}
use Rattle.address_prefixes.specs.declared.prefix.Prefix.{Prefix}

-- a multiple of 2^k
abbrev pub IsAligned : ℕ → ℕ → Type 0
IsAligned n k = (q : ℕ) × (n ≡ q * 2 ^ k)

module _ {A : Type 0} (number : A → ℕ) where
  -- the prefix has the address
  abbrev pub HasAddress : A → Prefix A → Type 0
  HasAddress a p = (number p.network ≤ number a) × (number a ≤ number p.last)

  -- one of the prefixes has the address
  abbrev pub SomeHasAddress : List (Prefix A) → A → Type 0
  SomeHasAddress prefixes a = Any (HasAddress a) prefixes

  -- each prefix ends before the next one starts
  abbrev pub AreAscending : List (Prefix A) → Type 0
  AreAscending prefixes = EachNext (λ p q. number p.last < number q.network) prefixes

  module _ (width : ℕ) where
    -- how many addresses begin with the bits that a prefix fixes
    abbrev pub size : Prefix A → ℕ
    size p = 2 ^ (width - p.length)

    -- its addresses are all that begin with the first bits of its network
    pub record IsPrefix (p : Prefix A) : Type 0 where
      pub short : p.length ≤ width
      pub aligned : IsAligned (number p.network) (width - p.length)
      pub ends : number p.last + 1 ≡ number p.network + size p
      pub fits : number p.last < 2 ^ width

  module _ (order : KeyOrder A) where
    -- the prefixes have just the addresses that the ranges hold
    abbrev pub HaveJust : List (Prefix A) → List (AnyRange A) → Type 0
    HaveJust prefixes ranges = (a : A) → order.is_key a → SomeHasAddress prefixes a
        ↔ Any (λ r. Holds order r a) ranges

    -- no shorter list of prefixes has just the addresses that the ranges hold
    abbrev pub AreFewest : ℕ → List (Prefix A) → List (AnyRange A) → Type 0
    AreFewest width prefixes ranges = (others : List (Prefix A))
        → AllByRecursion (IsPrefix width) others → HaveJust others ranges
        → length prefixes ≤ length others
