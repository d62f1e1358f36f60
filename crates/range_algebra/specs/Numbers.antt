-- How many keys there are of a kind, by listing them.
use Rattle.std.specs.Prelude.{◌≡◌, ℕ, List, [], ◌∷◌, ◌⊎◌, ◌↔◌, ⊤, length}
use Rattle.std.specs.List.{AllByRecursion}
use Rattle.std.specs.declared.cmp.Ordering.TheVariants.{Equal}
use Rattle.range_keys.specs.Order.{KeyOrder, Below}

module _ {K : Type 0} (order : KeyOrder K) where
  -- some key of the list equals k
  abbrev pub Lists : List K → K → Type 0
  Lists [] k = ⊥
  Lists (x ∷ keys) k = (order.cmp x k ≡ Equal) ⊎ Lists keys k

  -- each key is less than all that come after it
  abbrev pub AreRising : List K → Type 0
  AreRising [] = ⊤
  AreRising (x ∷ keys) = AllByRecursion (Below order x) keys × AreRising keys

  -- the keys of which P holds, listed in ascending order, are n
  pub record IsNumberOfKeys (P : K → Type 0) (n : ℕ) : Type 0 where
    pub keys : List K
    pub in_type : AllByRecursion order.is_key keys
    pub rising : AreRising keys
    pub listed : (k : K) → order.is_key k → P k ↔ Lists keys k
    pub many : length keys ≡ n
