-- Which ranges meet a list in which a range was bound, by the places that the list covers.
use Rattle.range_runs.proofs.Common.{arith, common_steps, refl, true, Bool, Result, OnOk, List, [], ◌∷◌, inl, inr, ◌↔◌, Every, IsEquivalence, KeyOrder, IsLawful, Position, AnyRange, IsKeyRange, lower, upper, line_of, IsBoundTo, le_refl, lt_le, le_lt_trans, lt_not_le, cases, not_le, PLe, PLt, Item, item_lower, item_upper, MeetsSome, MeetAlso, Overlap}
use Rattle.range_runs.proofs.Chains.{inside_or_out}
use Rattle.range_runs.proofs.Forms.{nonempty_good, before_is, Known, Chained, Hold, respects_any}

pub on_ok : {A E : Type 0} (P Q : Type 0) (r : Result A E) → (P → Q) → OnOk r P → OnOk r Q
on_ok P Q answer f h = grind (arith, common_steps)

module _ {K : Type 0} (order : KeyOrder K) (lawful : IsLawful order) where
  -- two ranges meet where each starts below the other's end
  pub overlap_is : (r s : AnyRange K) → IsKeyRange order r → IsKeyRange order s
      → Overlap order r s
      ↔ (PLt lawful (lower order r) (upper order s) × PLt lawful (lower order s) (upper order r))
  overlap_is r s known others =
      let before = before_is order lawful r.end s.start known.1 others.0 in
      let behind = before_is order lawful s.end r.start others.1 known.0 in (
        λ h. (
          not_le lawful (lower order r) (upper order s) (λ k. h.1 (behind.1 k)),
          not_le lawful (lower order s) (upper order r) (λ k. h.0 (before.1 k)),
        ),
        λ h. (grind (arith, common_steps, lt_not_le)),
      )

  -- a place that two ranges share
  abbrev Shared : AnyRange K → AnyRange K → Position K → Type 0
  Shared r s p = (PLe lawful (lower order r) p × PLt lawful p (upper order r))
      × (PLe lawful (lower order s) p × PLt lawful p (upper order s))

  overlapping_ranges_share_place : (r s : AnyRange K) → IsKeyRange order r → IsKeyRange order s
      → PLt lawful (lower order r) (upper order r) → PLt lawful (lower order s) (upper order s)
      → Overlap order r s → (p : Position K) × Shared r s p
  overlapping_ranges_share_place r s known others good good_s h =
      let met = (overlap_is r s known others).0 h in
      elim (cases lawful (lower order r) (lower order s)) [
        | inl l ↦ (lower order s, ((lt_le lawful _ _ l, met.1), (le_refl lawful _, good_s)))
        | inr g ↦ (lower order r, ((le_refl lawful _, good), (g, met.0)))
      ]

  pub shared_place_is_overlap : (r s : AnyRange K) (p : Position K) → IsKeyRange order r
      → IsKeyRange order s → PLe lawful (lower order r) p → PLt lawful p (upper order r)
      → PLe lawful (lower order s) p → PLt lawful p (upper order s) → Overlap order r s
  shared_place_is_overlap r s p known others from upto other_from other_upto = grind (arith, common_steps, overlap_is, le_lt_trans, from, other_upto, other_from, upto)

  module _ {V : Type 0} (same : V → V → Bool) (equal : IsEquivalence same) where
    pub chained_items_have_places : (items : List (Item (AnyRange K) V))
        → Chained order lawful same equal items
        → Every (λ i. PLt lawful (item_lower order i) (item_upper order i)) items
    chained_items_have_places [] h = tt
    chained_items_have_places (i ∷ []) h = (h.0, tt)
    chained_items_have_places (i ∷ j ∷ rest) h = (h.0, chained_items_have_places (j ∷ rest) h.1.1)

    -- a place of the range that some item holds
    pub record IsCovered (s : AnyRange K) (items : List (Item (AnyRange K) V)) : Type 0 where
      pub place : Position K
      pub from : PLe lawful (lower order s) place
      pub upto : PLt lawful place (upper order s)
      pub held : Hold order lawful same equal (λ u. true) place items

    pub met_range_is_covered : (s : AnyRange K) (items : List (Item (AnyRange K) V))
        → IsKeyRange order s → PLt lawful (lower order s) (upper order s)
        → Known order lawful same equal items
        → Every (λ i. PLt lawful (item_lower order i) (item_upper order i)) items
        → MeetsSome order items s → IsCovered s items
    met_range_is_covered s [] known good all full h = absurd h
    met_range_is_covered s (i ∷ rest) known good all full (inl h) =
        let at = overlapping_ranges_share_place i.key s all.0 known full.0 good h in
        record {
          place = at.0;
          from = at.1.1.0;
          upto = at.1.1.1;
          held = inl (at.1.0, refl);
        }
    met_range_is_covered s (i ∷ rest) known good all full (inr h) = grind (arith, common_steps, met_range_is_covered s rest known good all.1 full.1 h)

    held_place_is_met : (s : AnyRange K) (items : List (Item (AnyRange K) V)) (p : Position K)
        → IsKeyRange order s → Known order lawful same equal items → PLe lawful (lower order s) p
        → PLt lawful p (upper order s) → Hold order lawful same equal (λ u. true) p items
        → MeetsSome order items s
    held_place_is_met s [] p known all from upto h = absurd h
    held_place_is_met s (i ∷ rest) p known all from upto (inl h) = grind (arith, common_steps, shared_place_is_overlap)
    held_place_is_met s (i ∷ rest) p known all from upto (inr h) = grind (arith, common_steps, held_place_is_met s rest p known all.1 from upto h)

    -- what meets the range or a range of the list meets one of the list in which it was bound, and
    -- nothing else does
    pub meets_bound : (items new : List (Item (AnyRange K) V)) (r : AnyRange K) (v : V)
        → Known order lawful same equal items → Known order lawful same equal new
        → Chained order lawful same equal items → IsKeyRange order r
        → PLt lawful (lower order r) (upper order r) →
        IsBoundTo (line_of order lawful same equal) items new (lower order r) (upper order r) v
        → MeetAlso order items new r
    meets_bound items new r v all all_new chain known good changed = λ s known_s full.
        let line = line_of order lawful same equal in
        let any = respects_any order lawful same equal in
        let good_s = (nonempty_good order lawful s known_s).0 full in (
          λ h.
              let at = met_range_is_covered s new known_s good_s all_new
              (chained_items_have_places new changed.chain) h in
              elim (inside_or_out line at.place (lower order r) (upper order r)) [
                | inl within ↦ inl (shared_place_is_overlap r s at.place known known_s within.0
                    within.1 at.from at.upto)
                | inr out ↦ inr (held_place_is_met s items at.place known_s all at.from at.upto
                    ((changed.outside at.place (λ u. true) any out).0 at.held))
              ],
          λ h. elim h [
            | inl met ↦ let at = overlapping_ranges_share_place r s known known_s good good_s met in
                held_place_is_met s new at.0 known_s all_new at.1.1.0 at.1.1.1
                ((changed.inside at.0 (λ u. true) any at.1.0.0 at.1.0.1).1 refl)
            | inr met ↦
                let at = met_range_is_covered s items known_s good_s all
                (chained_items_have_places items chain) met in
                held_place_is_met s new at.place known_s all_new at.from at.upto
                (elim (inside_or_out line at.place (lower order r) (upper order r)) [
                  | inl within ↦
                      (changed.inside at.place (λ u. true) any within.0 within.1).1 refl
                  | inr out ↦ (changed.outside at.place (λ u. true) any out).1 at.held
                ])
          ],
        )
