use Rattle.range_map.proofs.Common.{◌≡◌, Bool, List, [], ◌∷◌, ◌++◌, Option, Some, None, MatchOption, IsEquivalence, IsLawful, every_left, line_of, KeyOrder, AnyRange, Item, IsStored, chain_left, chain_stored, stored_chain, stored_known}
use Rattle.range_map.proofs.StoredLists.{stored_canonical}
use Rattle.range_map.proofs.map.RangeMap.pop_last.Goals as goal

module _ {K : Type 0} {order : KeyOrder K} (lawful : IsLawful order) {V : Type 0}
    {same : V → V → Bool} (equal : IsEquivalence same) where
  stored_front : (items rest : List (Item (AnyRange K) V)) → IsStored order same (items ++ rest)
      → IsStored order same items
  stored_front items rest form =
      chain_stored order lawful same equal items
      (every_left _ items rest (stored_known order lawful same equal _ form))
      (chain_left (line_of order lawful same equal) items rest
      (stored_chain order lawful same equal _ form))

  stored_without_last : (old new : List (Item (AnyRange K) V)) (last : Option (Item (AnyRange K) V))
      → IsStored order same old
      → MatchOption last ((old ≡ []) × (new ≡ [])) (λ x. old ≡ new ++ x ∷ [])
      → IsStored order same new
  stored_without_last old new None form h = rw h.1 (rw h.0 at form)
  stored_without_last old new (Some x) form h = stored_front new (x ∷ []) (rw h at form)

pub invariant_of-self : goal.invariant_of-self
invariant_of-self g c =
    let items = g.C.Storage.items in
    stored_without_last g.met.K.PartialEnum.lawful
    g.met.V.Eq.laws (items c.self.inside.stored) (items c.pop_last.new.self) c.pop_last.result
    c.self.invariant c.pop_last.ensures.list

pub returns-clause-canonical : goal.returns-clause-canonical
returns-clause-canonical g c =
    stored_canonical g.met.K.PartialEnum.lawful g.met.V.Eq.laws _ (invariant_of-self g c)
