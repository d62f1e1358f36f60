-- Items over intervals of positions, each before the next, and touching only beside another
-- value: what is cut out of them and put between.
use Rattle.std.specs.Prelude.{◌≡◌, ◌∷◌, ◌⊎◌, ◌↔◌}
use Rattle.range_runs.specs.Common.{Every, Bool, true, List, [], IsTotalOrder, IsEquivalence, KeyOrder, IsLawful, position_cmp, Position, Le, Lt, Any, AnyRange, Item}
use Rattle.std.specs.declared.cmp.Ordering.{Ordering}
use Rattle.range_keys.specs.PositionOrder.{position_total}
use Rattle.range_runs.specs.Stored.{item_lower, item_upper}

-- a line of positions: their order, which values are equal, and of an item where it starts and ends
-- and its value
pub record Line (L V X : Type 0) : Type 0 where
  pub cmp : L → L → Ordering
  pub total : IsTotalOrder cmp
  pub same : V → V → Bool
  pub equal : IsEquivalence same
  pub lo : X → L
  pub hi : X → L
  pub value : X → V

module _ {L V X : Type 0} (line : Line L V X) where
  abbrev pub Good : X → Type 0
  Good x = Lt line.cmp (line.lo x) (line.hi x)

  -- the item ends at the position at most, and just there only beside another value
  abbrev pub Leads : X → L → V → Type 0
  Leads x p v =
      Le line.cmp (line.hi x) p
      × (Le line.cmp p (line.hi x) → line.same (line.value x) v ≡ true → ⊥)

  abbrev pub Follows : X → List X → Type 0
  Follows x [] = Unit {0}
  Follows x (y ∷ ys) = Leads x (line.lo y) (line.value y) × (Good y × Follows y ys)

  abbrev pub IsChain : List X → Type 0
  IsChain [] = Unit {0}
  IsChain (x ∷ xs) = Good x × Follows x xs

  abbrev pub Held : L → X → Type 0
  Held p x = Le line.cmp (line.lo x) p × Lt line.cmp p (line.hi x)

  -- some item holds the position with such a value
  abbrev pub Has : (V → Bool) → L → List X → Type 0
  Has W p = Any (λ x. Held p x × (W (line.value x) ≡ true))

  -- what equal values share
  abbrev pub Respects : (V → Bool) → Type 0
  Respects W = (a b : V) → line.same a b ≡ true → W a ≡ true → W b ≡ true

  -- each of the items leads to the position
  abbrev pub Leading : L → V → List X → Type 0
  Leading p v xs = Every (λ x. Leads x p v) xs

  -- the items below a position are these
  pub record IsLeft (items kept : List X) (c : L) : Type 0 where
    pub chain : IsChain kept
    pub ends : Every (λ x. Le line.cmp (line.hi x) c) kept
    pub holds : (p : L) (W : V → Bool) → Respects W → Lt line.cmp p c → Has W p kept ↔ Has W p items

  -- the items from a position on are these
  pub record IsRight (items kept : List X) (d : L) : Type 0 where
    pub chain : IsChain kept
    pub starts : Every (λ x. Le line.cmp d (line.lo x)) kept
    pub holds : (p : L) (W : V → Bool) → Respects W → Le line.cmp d p → Has W p kept ↔ Has W p items

  -- what a chain becomes where the positions from `c` up to `d` hold what is said, and all others
  -- what they held
  pub record IsMade (items new : List X) (c d : L)
      (Holds : L → (V → Bool) → Type 0) : Type 0 where
    pub chain : IsChain new
    pub inside : (p : L) (W : V → Bool) → Respects W → Le line.cmp c p → Lt line.cmp p d
        → Has W p new ↔ Holds p W
    pub outside : (p : L) (W : V → Bool) → Respects W → Lt line.cmp p c ⊎ Le line.cmp d p
        → Has W p new ↔ Has W p items

  -- a range from `c` up to `d` is bound to `v`
  abbrev pub IsBoundTo : List X → List X → L → L → V → Type 0
  IsBoundTo items new c d v = IsMade items new c d (λ p W. W v ≡ true)

  -- it is unbound
  abbrev pub IsUnbound : List X → List X → L → L → Type 0
  IsUnbound items new c d = IsMade items new c d (λ p W. ⊥)

  -- it holds what the middle does
  abbrev pub IsFilledWith : List X → List X → List X → L → L → Type 0
  IsFilledWith items middle new c d = IsMade items new c d (λ p W. Has W p middle)

-- the line of positions on which stored items lie
abbrev pub line_of : {K : Type 0} (order : KeyOrder K) (lawful : IsLawful order) {V : Type 0}
    (same : V → V → Bool) (equal : IsEquivalence same) → Line (Position K) V (Item (AnyRange K) V)
line_of order lawful same equal =
    record {
      cmp = position_cmp order.cmp;
      total = position_total order.cmp lawful.total;
      same = same;
      equal = equal;
      lo = item_lower order;
      hi = item_upper order;
      value = λ i. i.value;
    }
