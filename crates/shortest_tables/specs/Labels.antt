-- The shortest table of a map as a function: labels from the bottom up, then entries from the top.
use Rattle.std.specs.Prelude.{ℕ, zero, suc, Bool, true, false, if◌then◌else◌, List, [], ◌∷◌, ◌++◌, filter, Option, Some, None}
use Rattle.std.specs.List.{list_any}
use Rattle.shortest_tables.specs.Tables.{Bits, Table}

-- the values from above with which a block needs fewest entries: some, or no value at all, where an
-- address of the block is unbound
pub data Labels (V : Type 0) : Type 0 where
  Unbound : Labels V
  Among : V → List V → Labels V

-- a map of addresses, behind a first bit
abbrev pub half : {X : Type 0} → Bool → (Bits → X) → Bits → X
half b f a = f (b ∷ a)

-- entries with a bit before each prefix
abbrev pub behind : {V : Type 0} → Bool → Table V → Table V
behind b [] = []
behind b (e ∷ t) = (b ∷ e.0, e.1) ∷ behind b t

module _ {V : Type 0} (eq : V → V → Bool) where
  abbrev pub has : V → List V → Bool
  has v ws = list_any (λ w. eq w v) ws

  -- the values that both lists have, in the order of the first
  abbrev pub common : List V → List V → List V
  common vs ws = filter (λ v. has v ws) vs

  -- the first list as labels, or the second where the first is empty
  abbrev pub among_or : List V → V → List V → Labels V
  among_or [] v vs = Among v vs
  among_or (u ∷ us) v vs = Among u us

  -- the labels of a block by those of its halves: what both have, or else what either has
  abbrev pub join : Labels V → Labels V → Labels V
  join Unbound ms = Unbound
  join (Among v vs) Unbound = Unbound
  join (Among v vs) (Among w ws) = among_or (common (v ∷ vs) (w ∷ ws)) v (vs ++ w ∷ ws)

  abbrev pub leaf : Option V → Labels V
  leaf None = Unbound
  leaf (Some v) = Among v []

  -- the labels of the block of all addresses of so many bits
  abbrev pub labels : ℕ → (Bits → Option V) → Labels V
  labels zero f = leaf (f [])
  labels (suc width) f = join (labels width (half false f)) (labels width (half true f))

  -- the label of a block: the one from above, where it is one of the best
  abbrev pub choose : Labels V → Option V → Option V
  choose Unbound above = None
  choose (Among v vs) None = Some v
  choose (Among v vs) (Some u) = if has u (v ∷ vs) then Some u else Some v

  -- its own entry: none, where its label comes from above
  abbrev pub entry : Labels V → Option V → Table V
  entry Unbound above = []
  entry (Among v vs) None = ([], v) ∷ []
  entry (Among v vs) (Some u) = if has u (v ∷ vs) then [] else ([], v) ∷ []

  -- the entries of a block and its parts below a label
  abbrev pub table_below : ℕ → (Bits → Option V) → Option V → Table V
  table_below zero f above = entry (leaf (f [])) above
  table_below (suc width) f above =
      entry (labels (suc width) f) above
      ++ (behind false (table_below width (half false f) (choose (labels (suc width) f) above))
      ++ behind true (table_below width (half true f) (choose (labels (suc width) f) above)))

  -- the whole table
  abbrev pub table : ℕ → (Bits → Option V) → Table V
  table width f = table_below width f None
