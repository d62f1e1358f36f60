-- The last unrefused call on a pair says whether it is there.
use Rattle.std.proofs.Common.{Bool, List, [], ◌∷◌, ◌↔◌, ◌⊎◌, arith}
use Rattle.range_keys.specs.Order.{KeyOrder, IsLawful}
use Rattle.range_algebra.specs.declared.any.AnyRange.{AnyRange}
use Rattle.range_store.specs.declared.storage.Item.{Item}
use Rattle.range_multimaps.specs.Calls.{Call, Inserted, Removed, Refused, IsInsertion, IsOn, HasNoneOn, WasInserted, IsCallBetween, AreCallsBetween}
use Rattle.range_multimaps.specs.Pairs.{HasPair}
use Rattle.range_algebra.proofs.Meeting.{held_or_not}

module _ {K : Type 0} (order : KeyOrder K) (lawful : IsLawful order) {S V : Type 0}
    (has : S → V → Bool) (eq : V → V → Bool) (k : K) (key : order.is_key k) (w : V) where
  abbrev Items : Type 0
  Items = List (Item (AnyRange K) S)

  one_call_decides_pair : (items next : Items) (call : Call K V)
      → IsCallBetween order has eq items call next → HasPair order has next k w
      ↔ ((IsInsertion call × IsOn order eq k w call) ⊎
      (HasPair order has items k w × ¬ IsOn order eq k w call))
  one_call_decides_pair items next (Inserted r v) step =
      grind (arith, held_or_not order lawful r k)
  one_call_decides_pair items next (Removed r v) step = grind arith
  one_call_decides_pair items next Refused step = grind arith

  pub from_any : (items last : Items) (calls : List (Call K V))
      → AreCallsBetween order has eq items calls last → HasPair order has last k w
      ↔ (WasInserted order eq k w calls ⊎
      (HasPair order has items k w × HasNoneOn order eq k w calls))
  from_any items last [] chain = grind arith
  from_any items last (call ∷ calls) (next, step, chain) =
      grind (arith, one_call_decides_pair, from_any next last calls chain)

  pub from_empty : (last : Items) (calls : List (Call K V))
      → AreCallsBetween order has eq [] calls last → HasPair order has last k w
      ↔ WasInserted order eq k w calls
  from_empty last calls chain = grind (arith, from_any [] last calls chain)
