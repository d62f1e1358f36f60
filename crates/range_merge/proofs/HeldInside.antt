-- A key of a range that lies in another is a key of that.
use Rattle.std.proofs.Common.{inl, inr, List, [], ◌∷◌, rules}
use Rattle.range_merge.proofs.Common.{KeyOrder, IsLawful, Any, Holds, AnyRange, Item, IsBound, LiesIn}
use Rattle.range_algebra.proofs.Holding.{holds_by_position}
use Rattle.range_runs.proofs.PlaceOrder.{le_trans}

module _ {K : Type 0} {order : KeyOrder K} (lawful : IsLawful order) where
  pub lies_in_holds : (k : K) → order.is_key k → (r s : AnyRange K) → LiesIn order r s
      → Holds order r k → Holds order s k
  lies_in_holds k key r s within held =
      let at = (holds_by_position order lawful r k key).0 held in
      (holds_by_position order lawful s k key).1 (search (rules, le_trans))

  -- a key of a range that lies in one of the list is bound
  pub inside_holds : {W : Type 0} (i : AnyRange K) (others : List (Item (AnyRange K) W)) (k : K)
      → order.is_key k → Holds order i k → Any (λ j. LiesIn order i j.key) others
      → IsBound order others k
  inside_holds i [] k key held inside = inside
  inside_holds i (j ∷ others) k key held (inr inside) =
      inr (inside_holds i others k key held inside)
  inside_holds i (j ∷ others) k key held (inl inside) =
      inl (lies_in_holds k key i j.key inside held)
