-- Whether each key of a range is bound, and that an empty range has no piece.
use Rattle.range_map.proofs.ClosureAnswers.{every_one}
use Rattle.range_map.proofs.Common.{arith, common_steps, ◌≡◌, List, [], ◌∷◌, inl, inr, Option, Some, None, Included, KeyOrder, IsLawful, IsComplete, start_position, end_position, Beside, At, AnyRange, Holds, IsEmptyRange, any_none, every_weaker, Item, IsBound, Overlap, BindsAllOf, AreGapsWithin, LiesIn, IsCommonPart, IsFreePart, IsPiece, ArePieces, not_greater, not_both_greater_and_not, holds_by_position, any_use, later_over, earlier_under, binding_meets, le_refl, eq_le, eq_ge, le_trans, not_lt, nonempty_holds}
use Rattle.range_merge.proofs.HeldInside.{lies_in_holds}
use Rattle.range_bulk.proofs.BoundKeys.{bound_or_not, none_holds}

-- a common part of two ranges lies in both
pub common_lies_in : {K : Type 0} (order : KeyOrder K) (lawful : IsLawful order)
    (r s part : AnyRange K) → IsCommonPart order r s part
    → LiesIn order part r × LiesIn order part s
common_lies_in order lawful r s part common =
    let start = eq_ge lawful _ _ common.starts in
    let end = eq_le lawful _ _ common.ends in
    let over =
    later_over order lawful (start_position order r.start) (start_position order s.start) in
    let under =
    earlier_under order lawful (end_position order r.end) (end_position order s.end) in
    grind (arith, common_steps, le_trans)

module _ {K : Type 0} {order : KeyOrder K} (lawful : IsLawful order) {V : Type 0}
    (items : List (Item (AnyRange K) V)) (r : AnyRange K) where
  -- a nonempty range within another
  pub within_nonempty : (part : AnyRange K) → LiesIn order part r → (IsEmptyRange order part → ⊥)
      → IsEmptyRange order r → ⊥
  within_nonempty part within full empty =
      not_both_greater_and_not _ (le_trans lawful _ _ _ within.starts
      (le_trans lawful _ _ _ (not_greater _ full) within.ends)) empty

  piece_of_full : (part : AnyRange K) (v : Option V) → IsPiece order items r part v
      → IsEmptyRange order r → ⊥
  piece_of_full part None h empty = within_nonempty part h.0.within h.0.nonempty empty
  piece_of_full part (Some v) h empty =
      any_use _ _ items h.1 (every_one (λ _. Unit {0}) items (λ _. tt))
      (λ i c u. within_nonempty part (common_lies_in order lawful r i.key part c.0).0 h.0 empty)

  -- an empty range has no piece
  pub no_pieces : IsEmptyRange order r → ArePieces order items r []
  no_pieces empty = grind (arith, common_steps, piece_of_full)

  pub no_free_part : IsEmptyRange order r → (part : AnyRange K) → IsFreePart order items r part → ⊥
  no_free_part empty part free = within_nonempty part free.within free.nonempty empty

  module _ (k : K) (key : order.is_key k) where
    abbrev Point : AnyRange K
    Point = record { start = Included k; end = Included k }

    met_by_point : (i : AnyRange K) → Overlap order i Point → Holds order i k
    met_by_point i h =
        (holds_by_position order lawful i k key).1 (not_lt lawful _ _ h.1, not_lt lawful _ _ h.0)

    pub point_is_free : Holds order r k → ¬ IsBound order items k → IsFreePart order items r Point
    point_is_free held none =
        let within = (holds_by_position order lawful r k key).0 held in
        record {
          known = (key, key);
          nonempty = not_both_greater_and_not _ (le_refl lawful (Beside k At));
          within = record { starts = within.0; ends = within.1 };
          free =
              every_weaker _ _ items (λ i out h. out (met_by_point i.key h))
              ((none_holds order items k).0 none);
        }

  -- where no part is free, each key is bound
  pub full_binds : ((part : AnyRange K) → IsFreePart order items r part → ⊥)
      → BindsAllOf order items r
  full_binds none k key held =
      elim (bound_or_not order lawful items k) [
        | inl h ↦ h
        | inr h ↦ absurd (none (Point k key) (point_is_free k key held h))
      ]

  -- over complete keys no part is free where each key is bound
  pub bound_is_full : IsComplete order → BindsAllOf order items r → (part : AnyRange K)
      → IsFreePart order items r part → ⊥
  bound_is_full complete bound part free =
      let found =
      nonempty_holds order lawful complete part free.known (not_greater _ free.nonempty) in
      let held = lies_in_holds lawful found.0 found.1 part r free.within found.2 in
      any_none _ _ items free.free (λ i none h. none h) (binding_meets order lawful items part
      (found.0, found.1, found.2, bound found.0 found.1 held)).1

  -- a list of all gaps that has one shows a free part
  pub shown_is_free : (gaps : List (AnyRange K)) (g : AnyRange K) (rest : List (AnyRange K))
      → gaps ≡ g ∷ rest → AreGapsWithin order items r gaps → IsFreePart order items r g
  shown_is_free gaps g rest is are = (rw is at are).each.0.0
