-- Nonempty ranges, each before all that follow.
use Rattle.range_bulk.proofs.Common.{Bool, List, [], ◌∷◌, KeyOrder, IsLawful, start_position, end_position, position_cmp, Le, Every, IsEmptyRange, LiesBefore, AnyRange, every_weaker, Item, IsStored, not_greater, IsListed, stored_list_is_listed, le_trans, lt_le, lt_le_trans}
use Rattle.range_runs.specs.Neighbours.{EachNext}

module _ {K : Type 0} (order : KeyOrder K) where
  -- nonempty ranges, each before all that follow
  abbrev pub IsAscending : {V : Type 0} → List (Item (AnyRange K) V) → Type 0
  IsAscending [] = Unit {0}
  IsAscending (i ∷ rest) =
      (¬ IsEmptyRange order i.key) × Every (λ j. LiesBefore order i.key j.key) rest
      × IsAscending rest

module _ {K : Type 0} {order : KeyOrder K} (lawful : IsLawful order) where
  -- a range that is not empty ends where it starts, or later
  pub within : (r : AnyRange K) → (¬ IsEmptyRange order r)
      → Le (position_cmp order.cmp) (start_position order r.start) (end_position order r.end)
  within r full = not_greater _ full

  -- what lies before a range lies before what that range lies before
  pub before_through : (r s t : AnyRange K) → (¬ IsEmptyRange order s) → LiesBefore order r s
      → LiesBefore order s t → LiesBefore order r t
  before_through r s t full h k =
      lt_le_trans lawful _ _ _ h (le_trans lawful _ _ _ (within s full) (lt_le lawful _ _ k))

  pub before_rest : {V : Type 0} (r s : AnyRange K) (rest : List (Item (AnyRange K) V))
      → LiesBefore order r s → (¬ IsEmptyRange order s)
      → Every (λ l. LiesBefore order s l.key) rest → Every (λ l. LiesBefore order r l.key) rest
  before_rest r s rest h full all =
      every_weaker _ _ rest (λ l k. before_through r s l.key full h k) all

  module _ {V : Type 0} where
    pub ascends : (items : List (Item (AnyRange K) V))
        → Every (λ i. ¬ IsEmptyRange order i.key) items
        → EachNext (λ i j. LiesBefore order i.key j.key) items → IsAscending order items
    ascends [] full rising = tt
    ascends (i ∷ []) full rising = (full.0, tt, tt)
    ascends (i ∷ j ∷ rest) full rising =
        let later = ascends (j ∷ rest) full.1 rising.1 in (
          full.0,
          (rising.0, before_rest i.key j.key rest rising.0 later.0 later.1),
          later,
        )

    listed_ascends : (same : V → V → Bool) (items : List (Item (AnyRange K) V))
        → IsListed order lawful same items → IsAscending order items
    listed_ascends same [] h = tt
    listed_ascends same (i ∷ []) h = (h.1, tt, tt)
    listed_ascends same (i ∷ j ∷ rest) h =
        let later = listed_ascends same (j ∷ rest) h.4 in
        (h.1, (h.2, before_rest i.key j.key rest h.2 later.0 later.1), later)

    pub stored_ascends : {same : V → V → Bool} {items : List (Item (AnyRange K) V)}
        → IsStored order same items → IsAscending order items
    stored_ascends {same = same} {items = items} h =
        listed_ascends same items (stored_list_is_listed order lawful same items h)
