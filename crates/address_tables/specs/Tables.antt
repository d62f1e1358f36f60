-- Prefixes with values: where they route each address, and when no shorter list does the same.
use Rattle.std.specs.Prelude.{◌≡◌, ◌+◌, ◌≤◌, ◌<◌, ◌⊎◌, ℕ, Bool, IsTrue, ◌&&◌, if◌then◌else◌, nat_le, nat_lt, List, [], ◌∷◌, length, Option, Some, None}
use Rattle.std.specs.Borrow.{Bor}
use Rattle.std.specs.List.{AllByRecursion}
use Rattle.std.specs.Option.{option_map}
use Rattle.btree_range_map.specs.AnyRange.{AnyRange}
use Rattle.btree_range_map.specs.Bindings.{Binds, IsBound, IsSomeOf}
use Rattle.btree_range_map.specs.Item.{Item}
use Rattle.btree_range_map.specs.Neighbours.{EachNext}
use Rattle.btree_range_map.specs.Order.{KeyOrder}
use Rattle.address_prefixes.specs.Prefixes.{IsPrefix}
use Rattle.address_prefixes.specs.declared.prefix.Prefix.{Prefix}
use Rattle.address_tables.specs.declared.entries.Entry.{Entry}

-- an entry whose value is borrowed, with that value
abbrev pub shown : {A V : Type 0} → Entry A (Bor V) → Entry A V
shown e = record { prefix = e.prefix; value = e.value.now }

module _ {A : Type 0} (number : A → ℕ) where
  -- the prefix holds the address
  abbrev pub holds : Prefix A → A → Bool
  holds p a = nat_le (number p.network) (number a) && nat_le (number a) (number p.last)

  -- the one prefix ends before the other starts
  abbrev pub IsApart : Prefix A → Prefix A → Type 0
  IsApart p q = (number p.last < number q.network) ⊎ (number q.last < number p.network)

  module _ {V : Type 0} where
    -- of an entry and a later one the one whose prefix is longer, or else the later
    abbrev pub longer : Entry A V → Option (Entry A V) → Option (Entry A V)
    longer e None = Some e
    longer e (Some d) = if nat_lt d.prefix.length e.prefix.length then Some e else Some d

    -- of the entries that hold the address, the one whose prefix is the longest
    abbrev pub longest : List (Entry A V) → A → Option (Entry A V)
    longest [] a = None
    longest (e ∷ t) a = if holds e.prefix a then longer e (longest t a) else longest t a

    -- where the table routes the address: to the value of the longest prefix that holds it
    abbrev pub route : List (Entry A V) → A → Option V
    route t a = option_map (λ e. e.value) (longest t a)

    -- each entry has a prefix of addresses of so many bits
    abbrev pub ArePrefixes : ℕ → List (Entry A V) → Type 0
    ArePrefixes width t = AllByRecursion (λ e. IsPrefix number width e.prefix) t

    -- each prefix ends before the next one starts
    abbrev pub AreAscending : List (Entry A V) → Type 0
    AreAscending t = EachNext (λ d e. number d.prefix.last < number e.prefix.network) t

    -- no two prefixes overlap
    abbrev pub AreApart : List (Entry A V) → Type 0
    AreApart [] = Unit {0}
    AreApart (e ∷ t) = AllByRecursion (λ d. IsApart e.prefix d.prefix) t × AreApart t

module _ {A V : Type 0} (order : KeyOrder A) (same_value : V → V → Bool) where
  -- the two are equal values, or none
  abbrev pub AreSame : Option V → Option V → Type 0
  AreSame None None = Unit {0}
  AreSame None (Some w) = ⊥
  AreSame (Some v) x = IsSomeOf order same_value v x

  -- this is the value of the address, or, where it has none, the other one
  pub record IsValueOf (otherwise : Option V) (items : List (Item (AnyRange A) V)) (a : A)
      (x : Option V) : Type 0 where
    pub bound : IsBound order items a → Binds order same_value items a x
    pub free : ¬ IsBound order items a → AreSame otherwise x

module _ {A V : Type 0} (order : KeyOrder A) (number : A → ℕ) (same_value : V → V → Bool)
    (otherwise : Option V) (items : List (Item (AnyRange A) V)) where
  -- the table routes each address to its value, or, where it has none, to the other one
  abbrev pub IsTableOf : List (Entry A V) → Type 0
  IsTableOf t = (a : A) → order.is_key a
      → IsValueOf order same_value otherwise items a (route number t a)

  -- no table of prefixes that routes alike has fewer entries
  abbrev pub IsShortest : ℕ → List (Entry A V) → Type 0
  IsShortest width t = (others : List (Entry A V)) → ArePrefixes number width others
      → IsTableOf others → length t ≤ length others

  -- no table of prefixes of which no two overlap has fewer entries, if it routes alike
  abbrev pub IsShortestApart : ℕ → List (Entry A V) → Type 0
  IsShortestApart width t = (others : List (Entry A V)) → ArePrefixes number width others
      → AreApart number others → IsTableOf others → length t ≤ length others
