-- What stands free between the items of a stored list is all of its gaps.
use Rattle.std.proofs.Common.{◌≡◌, refl, sym, ap, Option, Some, Bool, List, [], ◌∷◌, ◌++◌, inl, inr, map, if◌then◌else◌, ◌+◌, ◌≤◌, arith, length, length-append}
use Rattle.range_map.proofs.Common.{common_steps, append-nil, IsEquivalence, Bound, Unbounded, KeyOrder, IsLawful, AnyRange, any_left, any_right, any_none, every_append, every_weaker, flipped, Any, Every, Holds, IsEmptyRange, IsKeyRange, LiesBefore, Item, full_range, item_ranges, IsHeldOnce, AreGaps, between, free_from, free_ranges, free_piece, pieces_from, LiesIn, Overlap, ArePieces, AreGapsWithin, IsStored, not_both_greater_and_not, every_nonempty, every_with, stored_list_is_listed, start_position, end_position, position_cmp, Le, held_between, unbounded_start, stored_known, any_with, AreOverlapping, le_trans, lt_not_le}
use Rattle.range_bulk.proofs.BoundKeys.{bound_or_not, bound_ranges, shared_key_is_overlap}
use Rattle.range_map.proofs.BindingAll.{point_is_free, within_nonempty}
use Rattle.range_runs.proofs.RunItems.{ends_full}
use Rattle.range_reads.proofs.FreeRanges.{free_append}
use Rattle.range_map.proofs.FreePieces.{Pairs, all_free, all_pieces, any_free, free_pairs, gaps_within_are, pieces_ascend}
use Rattle.range_bulk.proofs.Ascending.{IsAscending, stored_ascends}

pairs_append : {X : Type 0} (R : X → X → Type 0) (xs ys : List X) → Pairs R xs → Pairs R ys
    → Every (λ y. Every (λ x. R x y) xs) ys → Pairs R (xs ++ ys)
pairs_append R [] ys h k across = k
pairs_append R (x ∷ xs) ys h k across =
    grind (arith, common_steps, every_append, every_weaker, pairs_append R xs ys h.1 k)

free_pieces_are : {K : Type 0} (V : Type 0) (gaps : List (AnyRange K))
    → free_ranges {V = V} (map free_piece gaps) ≡ gaps
free_pieces_are V [] = refl
free_pieces_are V (g ∷ gaps) = ap (λ rs. g ∷ rs) (free_pieces_are V gaps)

module _ {K V : Type 0} where
  range_every : (P : AnyRange K → Type 0) (items : List (Item (AnyRange K) V))
      → Every (λ i. P i.key) items → Every P (item_ranges items)
  range_every P [] h = tt
  range_every P (i ∷ rest) h = (h.0, range_every P rest h.1)

  -- the free ones of the pieces are what is free
  free_ones_are : (order : KeyOrder K) (r : AnyRange K) (s : Option (Bound K))
      (items : List (Item (AnyRange K) V))
      → free_ranges (pieces_from order r s (Some Unbounded) items) ≡ free_from order s items
  free_ones_are order r s [] = free_pieces_are V _
  free_ones_are order r s (i ∷ rest) =
      rw (free_append, free_pieces_are, free_ones_are order r (flipped i.key.end) rest)

module _ {K : Type 0} {order : KeyOrder K} (lawful : IsLawful order) (k : K)
    (key : order.is_key k) where
  abbrev NotBoth : AnyRange K → AnyRange K → Type 0
  NotBoth r s = Holds order r k → ¬ Holds order s k

  before_not_both : (r s : AnyRange K) → LiesBefore order r s → NotBoth r s
  before_not_both r s l h g = (shared_key_is_overlap lawful k key r s h g).0 l

  missed_not_both : (r s : AnyRange K) → (¬ Overlap order r s) → NotBoth r s
  missed_not_both r s apart h g = apart (shared_key_is_overlap lawful k key r s h g)

  is_held_once : (ranges : List (AnyRange K)) → Pairs NotBoth ranges
      → Any (λ r. Holds order r k) ranges → IsHeldOnce order ranges k
  is_held_once [] pairs h = h
  is_held_once (r ∷ rest) pairs (inl h) = inl (h, every_weaker _ _ rest (λ s f. f h) pairs.0)
  is_held_once (r ∷ rest) pairs (inr h) =
      inr (λ g. any_none _ _ rest pairs.0 (λ s f held. f g held) h, is_held_once rest pairs.1 h)

  item_pairs : {V : Type 0} (items : List (Item (AnyRange K) V)) → IsAscending order items
      → Pairs NotBoth (item_ranges items)
  item_pairs [] up = tt
  item_pairs (i ∷ rest) up = (
    range_every (NotBoth i.key) rest
        (every_weaker _ _ rest (λ j l. before_not_both i.key j.key l) up.1),
    item_pairs rest up.2,
  )

module _ {K : Type 0} {order : KeyOrder K} (lawful : IsLawful order) {V : Type 0}
    {same : V → V → Bool} (equal : IsEquivalence same) (items : List (Item (AnyRange K) V))
    (stored : IsStored order same items) where
  abbrev Pieces : List (Item (AnyRange K) (Option V))
  Pieces = pieces_from order full_range (Some Unbounded) (Some Unbounded) items

  abbrev Gaps : List (AnyRange K)
  Gaps = free_from order (Some Unbounded) items

  lies_within : (r : AnyRange K) → IsKeyRange order r → LiesIn order r full_range
  lies_within r known = grind (arith, common_steps, unbounded_start, ends_full)

  all_known : Every (λ i. IsKeyRange order i.key) items
  all_known = stored_known order lawful same equal items stored

  nonempty : Every (λ i. Le (position_cmp order.cmp) (start_position order i.key.start)
      (end_position order i.key.end)) items
  nonempty =
      every_nonempty order lawful same items
      (stored_list_is_listed order lawful same items stored)

  overlapping : AreOverlapping order items full_range items
  overlapping = record {
    before = [];
    after = [];
    split = sym (append-nil items);
    below = tt;
    meet =
        every_with _ _ _ items all_known nonempty
        (grind (arith, common_steps, lies_within, lt_not_le, le_trans));
    above = tt;
  }

  none_in_empty : (xs : List (Item (AnyRange K) V)) → Every (λ i. IsKeyRange order i.key) xs
      → Every (λ i. Le (position_cmp order.cmp) (start_position order i.key.start)
      (end_position order i.key.end)) xs → IsEmptyRange order full_range → xs ≡ []
  none_in_empty list known own empty =
      grind (arith, common_steps, within_nonempty, lies_within, not_both_greater_and_not)

  none_if_empty : IsEmptyRange order full_range → items ≡ []
  none_if_empty = none_in_empty items all_known nonempty

  pieces : ArePieces order items full_range Pieces
  pieces = grind (arith, common_steps, all_pieces, overlapping, none_if_empty)

  gaps_within : AreGapsWithin order items full_range Gaps
  gaps_within = grind (arith, common_steps, free_ones_are, gaps_within_are, pieces)

  -- all gaps of the list stand free between its items
  pub gaps_are : AreGaps order items Gaps
  gaps_are =
      record { each = gaps_within.each; rising = gaps_within.rising; all = gaps_within.all }

  -- the ranges and the gaps together hold each key exactly once
  pub held_once : (k : K) → order.is_key k → IsHeldOnce order (item_ranges items ++ Gaps) k
  held_once k key =
      let ranges = item_ranges items in
      let same_gaps = free_ones_are order full_range (Some Unbounded) items in
      let others =
      rw same_gaps at (free_pairs order (NotBoth lawful k key) (before_not_both lawful k key) Pieces
      (pieces_ascend lawful items full_range Pieces pieces)) in
      let across =
      every_weaker _ _ Gaps (λ g piece. range_every (λ r. NotBoth lawful k key r g) items
      (every_weaker _ _ items (λ i apart. missed_not_both lawful k key i.key g apart)
      piece.0.free)) gaps_within.each in
      is_held_once lawful k key (ranges ++ Gaps)
      (pairs_append _ ranges Gaps (item_pairs lawful k key items (stored_ascends lawful stored))
      others across) (elim (bound_or_not order lawful items k) [
        | inl h ↦ any_left _ ranges Gaps ((bound_ranges order items k).1 h)
        | inr none ↦
            let point = point_is_free lawful items full_range k key (tt, tt) none in
            any_right _ ranges Gaps (any_with _ _ _ Gaps
            (rw same_gaps at (any_free _ Pieces (all_free lawful equal items full_range
            items stored (tt, tt) (λ _. overlapping) none_if_empty _ point))) gaps_within.each
            (λ g over piece. (held_between order lawful g k piece.0.known key).1 over))
      ])

none_or_one : {X : Type 0} (t : Bool) (x : X) → length (if t then [] else x ∷ []) ≤ 1
none_or_one test x = grind (arith, common_steps)

-- there is at most one gap more than there are items
module _ {K : Type 0} (order : KeyOrder K) where
  one_between : (s e : Option (Bound K)) → length (between order s e) ≤ 1
  one_between s e = grind (arith, common_steps, none_or_one)

  pub few_free : {V : Type 0} (s : Option (Bound K)) (items : List (Item (AnyRange K) V))
      → length (free_from order s items) ≤ length items + 1
  few_free s [] = omega (arith, one_between s (Some Unbounded))
  few_free s (i ∷ rest) =
      grind (arith, common_steps, one_between, few_free (flipped i.key.end) rest, length-append)
