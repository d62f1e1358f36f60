use Rattle.range_map.proofs.Common.{◌≡◌, Bool, List, [], ◌∷◌, Option, Some, None, MatchOption, IsLawful, KeyOrder, AnyRange, Item, IsStored}
use Rattle.range_map.proofs.StoredLists.{stored_canonical, tail_is_stored}
use Rattle.range_map.proofs.map.RangeMap.pop_first.Goals as goal

module _ {K : Type 0} {order : KeyOrder K} (lawful : IsLawful order) {V : Type 0}
    {same : V → V → Bool} where
  stored_without_first : (old new : List (Item (AnyRange K) V))
      (first : Option (Item (AnyRange K) V)) → IsStored order same old
      → MatchOption first ((old ≡ []) × (new ≡ [])) (λ x. old ≡ x ∷ new) → IsStored order same new
  stored_without_first old new None form h = rw h.1 (rw h.0 at form)
  stored_without_first old new (Some x) form h = tail_is_stored lawful (rw h at form)

pub invariant_of-self : goal.invariant_of-self
invariant_of-self g c =
    let items = g.C.Storage.items in
    stored_without_first g.met.K.PartialEnum.lawful (items c.self.inside.stored)
    (items c.pop_first.new.self) c.pop_first.result c.self.invariant c.pop_first.ensures.list

pub returns-clause-canonical : goal.returns-clause-canonical
returns-clause-canonical g c = stored_canonical g.met.K.PartialEnum.lawful g.met.V.Eq.laws _ (invariant_of-self g c)
