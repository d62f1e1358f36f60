-- One piece after the other, from either end.
use Rattle.range_runs.proofs.Common.{common_steps, ◌≡◌, refl, ap, List, [], ◌∷◌, ◌++◌, Option, Some, None, Bool, if◌then◌else◌, append_assoc, arith, length, length-append, ◌<◌, Bound, KeyOrder, IsLawful, common, flipped, starts_past_end, IsBoundOfKey, IsKeyRange, AnyRange, flipped_back, flipped_bound_is_past, flipped_known, Item, between, free_piece, bound_piece, free_between, pieces_from, eq_le, lt_not_le}
use Rattle.range_runs.proofs.Forms.{before_is}

module _ {K : Type 0} {order : KeyOrder K} (lawful : IsLawful order) where
  -- nothing is free between the start past an end and that end
  none_past : (e s : Bound K) → flipped e ≡ Some s → IsBoundOfKey order e → (t : Bool)
      → starts_past_end order s e ≡ t
      → ◌≡◌ {A = List (AnyRange K)} (if t then [] else record { start = s; end = e } ∷ []) []
  none_past e s turns known test is = grind (arith, common_steps, lt_not_le, before_is, flipped_known, eq_le, flipped_bound_is_past)

  none_after_end : (e : Bound K) (s : Option (Bound K)) → flipped e ≡ s → IsBoundOfKey order e
      → between order s (Some e) ≡ []
  none_after_end e option turns known = grind (arith, common_steps, none_past)

  none_before_start : (s : Bound K) (e : Option (Bound K)) → flipped s ≡ e → IsBoundOfKey order s
      → between order (Some s) e ≡ []
  none_before_start s None turns known = refl
  none_before_start s (Some e) turns known = none_after_end e (Some s)
      (flipped_back order lawful s e turns) (flipped_known order lawful s e turns known)

  module _ {V : Type 0} (r : AnyRange K) where
    -- the piece that comes first
    pub gap_first : (s e : Option (Bound K)) {items rest : List (Item (AnyRange K) V)}
        {i : Item (AnyRange K) V} (g : AnyRange K) (b : Bound K) → items ≡ i ∷ rest
        → IsKeyRange order i.key → g ∷ [] ≡ between order s (flipped i.key.start)
        → b ≡ i.key.start → pieces_from order r s e items
        ≡ free_piece g ∷ pieces_from order r (Some b) e items
    gap_first s e {rest = rest} {i = i} g b list known is start = grind (arith, common_steps, bound_piece, pieces_from, none_before_start, free_piece)

    -- the piece that comes last
    pieces_end : (s e : Option (Bound K)) (init : List (Item (AnyRange K) V))
        (i : Item (AnyRange K) V) → pieces_from order r s e (init ++ i ∷ [])
        ≡ pieces_from order r s (flipped i.key.start) init
        ++ bound_piece order r i ∷ free_between order (flipped i.key.end) e
    pieces_end s e [] i = refl
    pieces_end s e (j ∷ rest) i = grind (arith, common_steps, pieces_end (flipped j.key.end) e rest i, free_between, flipped, pieces_from, bound_piece, append_assoc)

    module _ (s e : Option (Bound K)) {items : List (Item (AnyRange K) V)}
        (init : List (Item (AnyRange K) V)) (i : Item (AnyRange K) V)
        (list : items ≡ init ++ i ∷ []) where
      pub gap_last : (g : AnyRange K) (b : Bound K) → IsKeyRange order i.key
          → g ∷ [] ≡ between order (flipped i.key.end) e → b ≡ i.key.end
          → pieces_from order r s e items
          ≡ pieces_from order r s (Some b) items ++ free_piece g ∷ []
      gap_last g b known is end = grind (arith, common_steps, pieces_from, bound_piece, none_after_end, pieces_end, free_piece, append_assoc)

      pub item_last : (t : Option (Bound K)) (part : AnyRange K)
          → [] ≡ between order (flipped i.key.end) e → t ≡ flipped i.key.start
          → part ≡ common order i.key r → pieces_from order r s e items
          ≡ pieces_from order r s t init ++ record { key = part; value = Some i.value } ∷ []
      item_last t part none start is = grind (arith, common_steps, pieces_end, pieces_from, bound_piece, free_piece)

-- what is left once the last is taken is less
pub last_is_less : {X : Type 0} (xs ys : List X) (x : X) → xs ≡ ys ++ x ∷ [] → length ys < length xs
last_is_less xs ys x is = omega (arith, ap length is, length-append ys (x ∷ []))
