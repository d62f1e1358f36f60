-- The addresses of lists: those that their lines say.
use Rattle.std.specs.Prelude.{◌≢◌, ◌⊎◌, ℕ, suc, ◌<◌, ◌^◌, ◌↔◌, Bool, List, [], ◌∷◌}
use Rattle.std.specs.Io.BufRead.{drop_through, take_through}
use Rattle.btree_range_map.specs.Holding.{box_items}
use Rattle.btree_range_map.specs.Intervals.{Any}
use Rattle.btree_range_map.specs.KeySets.{HoldsKey}
use Rattle.address_keys.specs.Addresses.{ipv4_at, ipv4_order, ipv6_at, ipv6_order}
use Rattle.address_text.specs.Lines.{Says, SaysAddress}
use Rattle.address_text.specs.Texts.{width}
use Rattle.address_text.specs.declared.family.Family.{Family}
use Rattle.address_text.specs.declared.family.Family.TheVariants.{V4, V6}
use Rattle.address_text.specs.declared.line.Line.{Line}
use Rattle.address_lists.specs.declared.addresses.Addresses.{Addresses}

-- the list has the address of the family with these bits
abbrev pub Has : Addresses → Family → ℕ → Type 0
Has list V4 n = HoldsKey ipv4_order (box_items list.v4) (ipv4_at n)
Has list V6 n = HoldsKey ipv6_order (box_items list.v6) (ipv6_at n)

-- the list has just the addresses of which this is so
abbrev pub HasJust : Addresses → (Family → ℕ → Type 0) → Type 0
HasJust list P = (family : Family) (n : ℕ) → n < 2 ^ width family → Has list family n ↔ P family n

-- the list has each address of the other one
abbrev pub HasAllOf : Addresses → Addresses → Type 0
HasAllOf list other = (family : Family) (n : ℕ) → n < 2 ^ width family → Has other family n
    → Has list family n

-- no address is in both lists
abbrev pub ShareNone : Addresses → Addresses → Type 0
ShareNone list other = (family : Family) (n : ℕ) → n < 2 ^ width family → Has list family n
    → ¬ Has other family n

-- after, it is so of those of which it was so before, and of these
abbrev pub AreAdded : (Family → ℕ → Type 0) → (Family → ℕ → Type 0) → (Family → ℕ → Type 0) → Type 0
AreAdded Before After P = (family : Family) (n : ℕ) → n < 2 ^ width family
    → After family n ↔ (Before family n ⊎ P family n)

-- one of the lines says the address
abbrev pub IsListed : Family → ℕ → List Line → Type 0
IsListed family n lines = Any (SaysAddress family n) lines

module _ (strict : Bool) where
  -- the line says nothing that is known
  abbrev pub SaysNothingKnown : List ℕ → Type 0
  SaysNothingKnown line = (said : Line) → ¬ Says strict line said

  -- what the good lines of the input say, one after the other, and how many others stand among
  -- them, up to the rest of it
  pub data AreGood : List ℕ → List Line → ℕ → List ℕ → Type 0 where
    Ended : (input : List ℕ) → AreGood input [] 0 input
    Said : (input : List ℕ) (line : Line) (lines : List Line) (others : ℕ) (rest : List ℕ)
        → input ≢ [] → Says strict (take_through 10 input) line
        → AreGood (drop_through 10 input) lines others rest
        → AreGood input (line ∷ lines) others rest
    Other : (input : List ℕ) (lines : List Line) (others : ℕ) (rest : List ℕ) → input ≢ []
        → SaysNothingKnown (take_through 10 input)
        → AreGood (drop_through 10 input) lines others rest
        → AreGood input lines (suc others) rest

  -- all lines up to the rest are good
  abbrev pub AreSaid : List ℕ → List Line → List ℕ → Type 0
  AreSaid input lines rest = AreGood input lines 0 rest
