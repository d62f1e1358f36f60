-- The gaps of a stored list are themselves in stored form, and so is each front of a list of clones
-- of them.
use Rattle.std.proofs.Common.{◌⊎◌, Bool, true, List, [], ◌∷◌, ◌++◌, map, None, arith}
use Rattle.std.specs.List.{AllByRecursion as Every}
use Rattle.range_keys.specs.Order.{KeyOrder, IsLawful}
use Rattle.range_keys.specs.Position.{start_position, end_position, position_cmp}
use Rattle.range_keys.specs.declared.inner.position.Position.{Position}
use Rattle.range_keys.proofs.Orderings.{less_or_not, not_both_greater_and_not, not_greater}
use Rattle.range_algebra.specs.Cuts.{upper}
use Rattle.range_algebra.specs.Intervals.{Le}
use Rattle.range_runs.proofs.PlaceOrder.{le_refl, lt_le, le_trans, lt_not_le}
use Rattle.range_algebra.specs.Range.{IsKeyRange, IsEmptyRange}
use Rattle.range_algebra.specs.Relations.{LiesBefore, Touches}
use Rattle.range_algebra.specs.declared.any.AnyRange.{AnyRange}
use Rattle.range_store.specs.declared.storage.Item.{Item}
use Rattle.range_reads.specs.FreeRanges.{full_range, AreGaps}
use Rattle.range_runs.specs.Neighbours.{EachNext}
use Rattle.range_runs.specs.Pieces.{IsFreePart, IsPiece}
use Rattle.range_runs.specs.Lookups.{Overlap}
use Rattle.range_runs.specs.Stored.{IsStored}
use Rattle.range_runs.proofs.Forms.{before_is, nonempty_good, touches_is}
use Rattle.range_runs.proofs.Listed.{IsListed, stored_list_is_listed, stored_by}
use Rattle.range_set_extend.specs.KeySets.{IsStoredSet}

-- the ranges as the items of a set
abbrev pub set_items : {K : Type 0} → List (AnyRange K) → List (Item (AnyRange K) (Unit {0}))
set_items ranges = map (λ r. record { key = r; value = tt }) ranges

module _ {K : Type 0} (order : KeyOrder K) (lawful : IsLawful order) where
  abbrev Start : AnyRange K → Position K
  Start r = start_position order r.start

  abbrev End : AnyRange K → Position K
  End r = end_position order r.end

  abbrev PLe : Position K → Position K → Type 0
  PLe p q = Le (position_cmp order.cmp) p q

  -- the range from the start of the one to the end of the other
  abbrev joint : AnyRange K → AnyRange K → AnyRange K
  joint g h = record { start = g.start; end = h.end }

  apart_is_before_or_after : (r s : AnyRange K) → (Overlap order r s → ⊥)
      → LiesBefore order r s ⊎ LiesBefore order s r
  apart_is_before_or_after r s apart =
      let ends = less_or_not (position_cmp order.cmp (End r) (Start s)) in
      let starts = less_or_not (position_cmp order.cmp (End s) (Start r)) in
      grind arith

  -- no nonempty range stands between two that touch
  none_between : (i g h : AnyRange K) → IsKeyRange order i → (IsEmptyRange order i → ⊥)
      → IsKeyRange order g → IsKeyRange order h → (IsEmptyRange order h → ⊥)
      → LiesBefore order g h → Touches order g h → LiesBefore order g i → LiesBefore order i h → ⊥
  none_between i g h known full known_g known_h full_h before touching l m =
      let le = (before_is order lawful g.end h.start known_g.1 known_h.0).0 before in
      let back =
      (touches_is order lawful g.end h known_h
      ((nonempty_good order lawful h known_h).0 full_h) le).0 touching in
      let under = (before_is order lawful g.end i.start known_g.1 known.0).0 l in
      lt_not_le lawful (End i) (Start h) m (le_trans lawful _ (upper order g) _ back
      (le_trans lawful _ (Start i) _ under (not_greater _ full)))

  -- where two ranges that touch miss an item, so does the range over both
  joint_misses : (i g h : AnyRange K) → IsKeyRange order i → (IsEmptyRange order i → ⊥)
      → IsKeyRange order g → IsKeyRange order h → (IsEmptyRange order h → ⊥)
      → LiesBefore order g h → Touches order g h → (Overlap order i g → ⊥) → (Overlap order i h → ⊥)
      → Overlap order i (joint g h) → ⊥
  joint_misses i g h known full known_g known_h full_h before touching miss_g miss_h meets =
      let or_g = apart_is_before_or_after i g miss_g in
      let or_h = apart_is_before_or_after i h miss_h in
      let between = none_between i g h known full known_g known_h full_h before touching in
      grind arith

  module _ {V : Type 0} where
    abbrev IsFullItem : Item (AnyRange K) V → Type 0
    IsFullItem i = IsKeyRange order i.key × (IsEmptyRange order i.key → ⊥)

    every_full : (items : List (Item (AnyRange K) V))
        → Every (λ i. IsKeyRange order i.key) items
        → Every (λ i. IsEmptyRange order i.key → ⊥) items → Every IsFullItem items
    every_full [] known full = tt
    every_full (i ∷ rest) known full = ((known.0, full.0), every_full rest known.1 full.1)

    all_missed : (items : List (Item (AnyRange K) V)) (g h : AnyRange K) → Every IsFullItem items
        → IsKeyRange order g → IsKeyRange order h → (IsEmptyRange order h → ⊥)
        → LiesBefore order g h → Touches order g h → Every (λ i. ¬ Overlap order i.key g) items
        → Every (λ i. ¬ Overlap order i.key h) items
        → Every (λ i. ¬ Overlap order i.key (joint g h)) items
    all_missed [] g h full known_g known_h full_h before touching miss_g miss_h = tt
    all_missed (i ∷ rest) g h full known_g known_h full_h before touching miss_g miss_h = (
      joint_misses i.key g h full.0.0 full.0.1 known_g known_h full_h before touching miss_g.0
          miss_h.0,
      all_missed rest g h full.1 known_g known_h full_h before touching miss_g.1 miss_h.1,
    )

    -- gaps do not touch, since each is as wide as it goes
    gaps_apart : (items : List (Item (AnyRange K) V)) (g h : AnyRange K) → Every IsFullItem items
        → IsPiece order items full_range g None → IsPiece order items full_range h None
        → LiesBefore order g h → Touches order g h → ⊥
    gaps_apart items g h full piece other before touching =
        let within_g : PLe (Start g) (End g) = not_greater _ piece.0.nonempty in
        let within_h : PLe (Start h) (End h) = not_greater _ other.0.nonempty in
        let ends : PLe (End g) (End h) = le_trans lawful _ (Start h) _ (lt_le lawful _ _ before)
        within_h in
        let wide : IsFreePart order items full_range (joint g h) =
        grind (arith, all_missed, le_trans, not_both_greater_and_not) in
        let back =
        piece.1 (joint g h) wide
        (record { starts = le_refl lawful (Start g); ends = ends }) in
        lt_not_le lawful (End g) (Start h) before (le_trans lawful _ (End h) _ within_h back.ends)

    gaps_listed : (items : List (Item (AnyRange K) V)) (gaps : List (AnyRange K))
        → Every IsFullItem items → Every (λ g. IsPiece order items full_range g None) gaps
        → EachNext (LiesBefore order) gaps → IsListed order lawful (λ _ _. true) (set_items gaps)
    gaps_listed items [] full each rising = tt
    gaps_listed items (g ∷ []) full each rising = (each.0.0.known, each.0.0.nonempty)
    gaps_listed items (g ∷ h ∷ rest) full each rising =
        grind (arith, gaps_apart, gaps_listed items (h ∷ rest) full each.1 rising.1)

    -- the gaps are in the form of a set
    pub gaps_stored : (same : V → V → Bool) (items : List (Item (AnyRange K) V))
        (gaps : List (AnyRange K)) → IsStored order same items → AreGaps order items gaps
        → IsStoredSet order (set_items gaps)
    gaps_stored same items gaps form are =
        stored_by order lawful (λ _ _. true) (set_items gaps)
        (gaps_listed items gaps (every_full items form.known form.nonempty) are.each are.rising)

  front_listed : (front behind : List (AnyRange K))
      → IsListed order lawful (λ _ _. true) (set_items (front ++ behind))
      → IsListed order lawful (λ _ _. true) (set_items front)
  front_listed [] behind h = tt
  front_listed (g ∷ []) [] h = h
  front_listed (g ∷ []) (k ∷ behind) h = (h.0, h.1)
  front_listed (g ∷ i ∷ front) behind h = (h.0, h.1, h.2, h.3, front_listed (i ∷ front) behind h.4)

  -- the front of a list in the form of a set is in that form
  pub front_stored : (front behind : List (AnyRange K))
      → IsStoredSet order (set_items (front ++ behind)) → IsStoredSet order (set_items front)
  front_stored front behind h =
      stored_by order lawful (λ _ _. true) (set_items front)
      (front_listed front behind
      (stored_list_is_listed order lawful (λ _ _. true) (set_items (front ++ behind)) h))
