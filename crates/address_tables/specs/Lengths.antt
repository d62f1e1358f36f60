-- What the prefixes of one length say of each address.
use Rattle.std.specs.Prelude.{ℕ, Bool, ◌&&◌, ◌==◌, if◌then◌else◌, List, [], ◌∷◌, Option, Some, None}
use Rattle.btree_range_map.specs.AnyRange.{AnyRange}
use Rattle.btree_range_map.specs.Bindings.{Binds}
use Rattle.btree_range_map.specs.Item.{Item}
use Rattle.btree_range_map.specs.Order.{KeyOrder}
use Rattle.address_tables.specs.Tables.{holds}
use Rattle.address_tables.specs.declared.entries.Entry.{Entry}

-- the second value, or where there is none the first
abbrev pub over : {V : Type 0} → Option V → Option V → Option V
over x None = x
over x (Some v) = Some v

module _ {A V : Type 0} (number : A → ℕ) where
  -- the value of an entry of this length that holds the address
  abbrev pub own : ℕ → Entry A V → A → Option V
  own length e a =
      if (e.prefix.length == length) && holds number e.prefix a then Some e.value else None

  -- the value of the last such entry
  abbrev pub last_of : ℕ → List (Entry A V) → A → Option V
  last_of length [] a = None
  last_of length (e ∷ t) a = over (own length e a) (last_of length t a)

module _ {A V : Type 0} (order : KeyOrder A) (number : A → ℕ) (same_value : V → V → Bool) where
  -- the addresses of the entries of this length are bound to the values of the last ones that hold
  -- them, and each other one as before
  abbrev pub IsBoundOver : ℕ → List (Entry A V) → List (Item (AnyRange A) V)
      → List (Item (AnyRange A) V) → Type 0
  IsBoundOver length t before after = (a : A) → order.is_key a → (x : Option V)
      → Binds order same_value before a x
      → Binds order same_value after a (over x (last_of number length t a))
