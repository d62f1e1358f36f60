-- The free pieces of a range alone.
use Rattle.std.proofs.Common.{◌≡◌, refl, List, [], ◌∷◌, Option, None, Bool}
use Rattle.range_map.proofs.Common.{arith, common_steps, IsEquivalence, Equal, KeyOrder, IsLawful, AnyRange, Any, Every, IsKeyRange, IsEmptyRange, range_cmp, LiesBefore, any_left, any_right, every_append, every_weaker, Item, free_ranges, AreGapsWithin, IsPiece, IsFreePart, ArePieces, IsStored, greater_or_not, any_over, AreOverlapping, pieces_of}
use Rattle.range_runs.specs.Neighbours.{EachNext}
use Rattle.range_runs.proofs.PieceLists.{IsOver, pieces_are, free_shows}
use Rattle.range_map.proofs.BindingAll.{no_pieces, no_free_part}
use Rattle.range_bulk.proofs.Ascending.{IsAscending, ascends}

-- what holds between each member and those after it
abbrev pub Pairs : {X : Type 0} → (X → X → Type 0) → List X → Type 0
Pairs R [] = Unit {0}
Pairs R (x ∷ xs) = Every (R x) xs × Pairs R xs

each_next : {X : Type 0} (R : X → X → Type 0) (xs : List X) → Pairs R xs → EachNext R xs
each_next R [] h = tt
each_next R (x ∷ []) h = (tt, tt)
each_next R (x ∷ y ∷ xs) h = (h.0.0, each_next R (y ∷ xs) h.1)

-- the free ones of a list of pieces
module _ {K V : Type 0} where
  every_free : (P : AnyRange K → Type 0) (pieces : List (Item (AnyRange K) (Option V)))
      → Every (λ p. p.value ≡ None → P p.key) pieces → Every P (free_ranges pieces)
  every_free P [] h = tt
  every_free P (p ∷ rest) h = grind (arith, common_steps, every_append, every_free P rest h.1)

  pub any_free : (P : AnyRange K → Type 0) (pieces : List (Item (AnyRange K) (Option V)))
      → Any (λ p. P p.key × (p.value ≡ None)) pieces → Any P (free_ranges pieces)
  any_free P [] h = h
  any_free P (p ∷ rest) either = grind (arith, common_steps, any_left, any_right, any_free P rest)

  -- where no range is shown, no piece is free
  pub none_free : (pieces : List (Item (AnyRange K) (Option V))) → free_ranges pieces ≡ []
      → ¬ Any (λ p. p.value ≡ None) pieces
  none_free pieces none h =
      rw none at (any_free (λ _. Unit {0}) pieces (any_over _ _ pieces (λ p e. (tt, e)) h))

module _ {K : Type 0} (order : KeyOrder K) {V : Type 0} (R : AnyRange K → AnyRange K → Type 0)
    (apart : (r s : AnyRange K) → LiesBefore order r s → R r s) where
  pub free_pairs : (pieces : List (Item (AnyRange K) (Option V))) → IsAscending order pieces
      → Pairs R (free_ranges pieces)
  free_pairs [] up = tt
  free_pairs (p ∷ rest) up =
      let all =
      every_free (R p.key) rest (every_weaker _ _ rest (λ s l _. apart p.key s.key l) up.1) in
      grind (arith, common_steps, free_pairs rest up.2)

module _ {K : Type 0} {order : KeyOrder K} (lawful : IsLawful order) {V : Type 0}
    (items : List (Item (AnyRange K) V)) (r : AnyRange K) where
  nonempty_piece : (part : AnyRange K) (v : Option V) → IsPiece order items r part v
      → ¬ IsEmptyRange order part
  nonempty_piece part option h = grind (arith, common_steps)

  pub pieces_ascend : (pieces : List (Item (AnyRange K) (Option V)))
      → ArePieces order items r pieces → IsAscending order pieces
  pieces_ascend pieces are = grind (arith, common_steps, ascends, every_weaker, nonempty_piece)

  -- the free ones of all pieces are all free pieces
  pub gaps_within_are : (pieces : List (Item (AnyRange K) (Option V)))
      → ArePieces order items r pieces → AreGapsWithin order items r (free_ranges pieces)
  gaps_within_are pieces are = record {
    each = every_free _ pieces (every_weaker _ _ pieces (λ p h e. rw e at h) are.each);
    rising =
        each_next _ _
        (free_pairs order (LiesBefore order) (λ r s l. l) pieces (pieces_ascend pieces are));
    all =
        λ part known piece. any_free (λ g. range_cmp order g part ≡ Equal) pieces
        (are.all part None known piece);
  }

module _ {K : Type 0} {order : KeyOrder K} (lawful : IsLawful order) {V : Type 0}
    {same : V → V → Bool} (equal : IsEquivalence same) (items : List (Item (AnyRange K) V))
    (r : AnyRange K) (met : List (Item (AnyRange K) V)) (stored : IsStored order same items)
    (known : IsKeyRange order r)
    (are : (IsEmptyRange order r → ⊥) → AreOverlapping order items r met)
    (none : IsEmptyRange order r → met ≡ []) where
  abbrev All : List (Item (AnyRange K) (Option V))
  All = pieces_of order r met

  none_of_empty : IsEmptyRange order r → All ≡ []
  none_of_empty empty = rw (none empty, empty) refl

  either_kind : (P : List (Item (AnyRange K) (Option V)) → Type 0) → (IsEmptyRange order r → P [])
      → ((IsEmptyRange order r → ⊥) → P All) → P All
  either_kind P empty full = grind (arith, greater_or_not, none_of_empty)

  pub all_pieces : ArePieces order items r All
  all_pieces =
      either_kind (ArePieces order items r) (no_pieces lawful items r)
      (λ full. pieces_are lawful equal items r stored known full met (are full))

  pub all_free : (part : AnyRange K) → IsFreePart order items r part
      → Any (λ p. IsOver order p.key part × (p.value ≡ None)) All
  all_free part free =
      either_kind (Any (λ p. IsOver order p.key part × (p.value ≡ None)))
      (λ empty. absurd (no_free_part lawful items r empty part free))
      (λ full. free_shows lawful equal items r stored known full met (are full) part free)
