-- What misses all the gaps of a list lies in one of its items.
use Rattle.std.proofs.Common.{◌≡◌, refl, Option, Some, None, true, List, [], ◌∷◌, arith}
use Rattle.std.specs.List.{AllByRecursion as Every}
use Rattle.std.specs.declared.ops.Bound.{Bound}
use Rattle.std.specs.declared.ops.Bound.TheVariants.{Included, Excluded, Unbounded}
use Rattle.range_keys.specs.Order.{KeyOrder, IsLawful}
use Rattle.range_keys.specs.Position.{start_position, end_position, position_cmp}
use Rattle.range_keys.specs.declared.inner.position.Position.{Position}
use Rattle.range_algebra.specs.declared.any.AnyRange.{AnyRange}
use Rattle.range_algebra.proofs.Lists.{every_left, every_right}
use Rattle.range_algebra.specs.Compared.{flipped}
use Rattle.range_algebra.specs.Cuts.{past}
use Rattle.range_algebra.specs.Intervals.{Le, Lt, Any}
use Rattle.range_runs.proofs.PlaceOrder.{eq_ge, le_trans, lt_not_le, not_le, not_lt, cases, lt_le_trans, le_lt_trans}
use Rattle.range_algebra.specs.Range.{IsBoundOfKey, IsKeyRange, IsEmptyRange}
use Rattle.range_algebra.proofs.Positions.{reaching_is_before_past, flipped_bound_is_past, flipped_back, flipped_known, unbounded_start}
use Rattle.range_store.specs.declared.storage.Item.{Item}
use Rattle.range_reads.specs.FreeRanges.{between, free_from}
use Rattle.range_runs.specs.Pieces.{LiesIn}
use Rattle.range_runs.specs.Lookups.{Overlap}
use Rattle.range_runs.proofs.Forms.{before_is, nonempty_good, touches_is}
use Rattle.range_sets.proofs.FullRanges.{From, IsFull, between_is, ends_before, ends_full}
use Rattle.range_runs.proofs.Listed.{IsListed}

module _ {K : Type 0} (order : KeyOrder K) (lawful : IsLawful order) where
  abbrev PLe : Position K → Position K → Type 0
  PLe p q = Le (position_cmp order.cmp) p q

  abbrev PLt : Position K → Position K → Type 0
  PLt p q = Lt (position_cmp order.cmp) p q

  abbrev Start : Bound K → Position K
  Start b = start_position order b

  abbrev End : Bound K → Position K
  End b = end_position order b

  between_at : (P : List (AnyRange K) → Type 0) (s e : Option (Bound K)) (a b : Bound K)
      → s ≡ Some a → e ≡ Some b → PLe (Start a) (End b) → P (record { start = a; end = b } ∷ [])
      → P (between order s e)
  between_at P s e a b f g le h = rw (f, g) (between_is order lawful P a b le h)

  -- what misses each range that stands between two bounds misses the one that does
  gap_would_overlap : (r : AnyRange K) (s e : Option (Bound K)) (a b : Bound K) → s ≡ Some a
      → e ≡ Some b → PLe (Start a) (End b) → Every (λ g. ¬ Overlap order g r) (between order s e)
      → Overlap order (record { start = a; end = b }) r → ⊥
  gap_would_overlap r s e a b f g le all = grind (arith, between_at)

  -- a bound that another start lies before has a bound on its other side
  start_is_flipped : (x p : Bound K) → IsBoundOfKey order p → PLt (Start p) (Start x)
      → (b : Bound K) × (flipped x ≡ Some b)
  start_is_flipped (Included a) p known l = (Excluded a, refl)
  start_is_flipped (Excluded a) p known l = (Included a, refl)
  start_is_flipped Unbounded p known l = grind (arith, lt_not_le, unbounded_start)

  end_is_flipped : (e q : Bound K) → IsBoundOfKey order q → PLt (End e) (End q)
      → (a : Bound K) × (flipped e ≡ Some a)
  end_is_flipped (Included a) q known l = (Excluded a, refl)
  end_is_flipped (Excluded a) q known l = (Included a, refl)
  end_is_flipped Unbounded q known l = grind (arith, ends_full, lt_not_le)

  -- what starts before a start is at most at the end just before it
  reach_before : (p x b : Bound K) → IsBoundOfKey order p → IsBoundOfKey order x
      → flipped x ≡ Some b → PLt (Start p) (Start x) → PLe (Start p) (End b)
  reach_before p x b known known_x turns l =
      grind (
        arith,
        eq_ge,
        flipped_back,
        flipped_bound_is_past,
        flipped_known,
        lt_le_trans,
        reaching_is_before_past,
      )

  -- what starts past the end just before a start is at least there
  start_after : (p x b : Bound K) → IsBoundOfKey order p → IsBoundOfKey order x
      → flipped x ≡ Some b → PLt (End b) (Start p) → PLe (Start x) (Start p)
  start_after p x b known known_x turns l =
      let at = flipped_bound_is_past order lawful b x (flipped_back order lawful x b turns) in
      le_trans lawful (Start x) (past order (End b)) (Start p)
      (eq_ge lawful (past order (End b)) (Start x) at)
      ((before_is order lawful b p (flipped_known order lawful x b turns known_x) known).0 l)

  -- what ends after an end reaches the start just past it
  end_reaches : (e a q : Bound K) → IsBoundOfKey order e → IsBoundOfKey order q
      → flipped e ≡ Some a → PLt (End e) (End q) → PLt (End q) (Start a) → ⊥
  end_reaches e a q known_e known turns l under =
      lt_not_le lawful (End e) (End q) l
      (ends_before order lawful q a e known known_e (flipped_back order lawful e a turns) under)

  -- a range after a bound that misses the gap up to a start does not start before it
  start_is_not_before_item : (s : Option (Bound K)) (x : Bound K) (r : AnyRange K)
      → IsBoundOfKey order x → IsFull order lawful r → From order lawful s r
      → Every (λ g. ¬ Overlap order g r) (between order s (flipped x))
      → PLt (Start r.start) (Start x) → ⊥
  start_is_not_before_item None x r known full from all l = absurd from
  start_is_not_before_item (Some a) x r known full from all l =
      let turn = start_is_flipped x r.start full.0.0 l in
      let reach = reach_before r.start x turn.0 full.0.0 known turn.1 l in
      gap_would_overlap r (Some a) (flipped x) a turn.0 refl turn.1
      (le_trans lawful (Start a) (Start r.start) (End turn.0) from reach) all
      (grind (arith, le_trans, lt_not_le))

  -- a range that misses the gap after an end, the last one, does not reach over it
  over_last : (e : Bound K) (r : AnyRange K) → IsBoundOfKey order e → IsFull order lawful r
      → Every (λ g. ¬ Overlap order g r) (between order (flipped e) (Some Unbounded))
      → PLt (End e) (End r.end) → ⊥
  over_last e r known full all l =
      let turn = end_is_flipped e r.end full.0.1 l in
      let under = end_reaches e turn.0 r.end known full.0.1 turn.1 l in
      let last = ends_full order lawful r.end full.0.1 in
      let reach =
      le_trans lawful (Start turn.0) (End r.end) (End Unbounded)
      (not_lt lawful (Start turn.0) (End r.end) under) last in
      gap_would_overlap r (flipped e) (Some Unbounded) turn.0 Unbounded turn.1 refl reach all
      (grind (arith, le_trans, lt_not_le))

  -- nor does one that starts before it where a range stands after the gap
  over_next : (e : Bound K) (next r : AnyRange K) → IsBoundOfKey order e → IsFull order lawful r
      → IsKeyRange order next → (IsEmptyRange order next → ⊥) → PLt (End e) (Start next.start)
      → (PLe (Start next.start) (past order (End e)) → ⊥)
      → Every (λ g. ¬ Overlap order g r) (between order (flipped e) (flipped next.start))
      → PLe (Start r.start) (End e) → PLt (End e) (End r.end) → ⊥
  over_next e next r known full known_next some before apart all starts l =
      let first = end_is_flipped e r.end full.0.1 l in
      let a = first.0 in
      let known_a = flipped_known order lawful e a first.1 known in
      let ahead = le_lt_trans lawful (Start r.start) (End e) (Start next.start) starts before in
      let second = start_is_flipped next.start r.start full.0.0 ahead in
      let b = second.0 in
      let up =
      le_lt_trans lawful (Start a) (past order (End e)) (Start next.start)
      (grind (arith, eq_ge, flipped_bound_is_past))
      (not_le lawful (past order (End e)) (Start next.start) apart) in
      gap_would_overlap r (flipped e) (flipped next.start) a b first.1 second.1
      (reach_before a next.start b known_a known_next.0 second.1 up) all (
        λ behind. lt_not_le lawful (Start r.start) (Start next.start) ahead
            (start_after r.start next.start b full.0.0 known_next.0 second.1 behind),
        end_reaches e a r.end known full.0.1 first.1 l,
      )

  -- what starts past an end is after the bound on the other side of it
  from_next : (e : Bound K) (r : AnyRange K) → IsBoundOfKey order e → IsFull order lawful r
      → PLt (End e) (Start r.start) → From order lawful (flipped e) r
  from_next (Included a) r known full l =
      start_after r.start (Excluded a) (Included a) full.0.0 known refl l
  from_next (Excluded a) r known full l =
      start_after r.start (Included a) (Excluded a) full.0.0 known refl l
  from_next Unbounded r known full l = grind (arith, ends_full, le_trans, lt_not_le)

  module _ {V : Type 0} where
    abbrev IsSetList : List (Item (AnyRange K) V) → Type 0
    IsSetList items = IsListed order lawful (λ _ _. true) items

    rest_listed : (i : Item (AnyRange K) V) (rest : List (Item (AnyRange K) V))
        → IsSetList (i ∷ rest) → IsSetList rest
    rest_listed i [] h = tt
    rest_listed i (j ∷ rest) h = h.4

    first_known : (i : Item (AnyRange K) V) (rest : List (Item (AnyRange K) V))
        → IsSetList (i ∷ rest) → IsKeyRange order i.key
    first_known i [] h = h.0
    first_known i (j ∷ rest) h = h.0

    next_known : (j : Item (AnyRange K) V) (rest : List (Item (AnyRange K) V))
        → IsSetList (j ∷ rest) → IsEmptyRange order j.key → ⊥
    next_known j [] h = h.1
    next_known j (k ∷ rest) h = h.1

    end_is_not_past_item : (i : Item (AnyRange K) V) (rest : List (Item (AnyRange K) V))
        (r : AnyRange K) → IsSetList (i ∷ rest) → IsFull order lawful r
        → Every (λ g. ¬ Overlap order g r) (free_from order (flipped i.key.end) rest)
        → PLe (Start r.start) (End i.key.end) → PLt (End i.key.end) (End r.end) → ⊥
    end_is_not_past_item i [] r h full all starts l = over_last i.key.end r h.0.1 full all l
    end_is_not_past_item i (j ∷ rest) r h full all starts l =
        let known = first_known j rest h.4 in
        let some = next_known j rest h.4 in
        let le = (before_is order lawful i.key.end j.key.start h.0.1 known.0).0 h.2 in
        let touching =
        touches_is order lawful i.key.end j.key known
        ((nonempty_good order lawful j.key known).0 some) le in
        over_next i.key.end j.key r h.0.1 full known some h.2 (λ back. h.3 (touching.1 back) refl)
        (grind (arith, every_left)) starts l

    -- a range after a bound that misses all that is free there lies in an item
    pub missing_gaps_is_within_item : (s : Option (Bound K)) (items : List (Item (AnyRange K) V))
        (r : AnyRange K) → IsSetList items → IsFull order lawful r → From order lawful s r
        → Every (λ g. ¬ Overlap order g r) (free_from order s items)
        → Any (λ i. LiesIn order r i.key) items
    missing_gaps_is_within_item None [] r h full from all = absurd from
    missing_gaps_is_within_item (Some a) [] r h full from all =
        let reach =
        le_trans lawful (Start r.start) (End r.end) (End Unbounded) full.1
        (ends_full order lawful r.end full.0.1) in
        absurd (gap_would_overlap r (Some a) (Some Unbounded) a Unbounded refl refl
        (le_trans lawful (Start a) (Start r.start) (End Unbounded) from reach) all
        (grind (arith, le_trans, lt_not_le)))
    missing_gaps_is_within_item s (i ∷ rest) r h full from all =
        grind (
          arith,
          cases,
          end_is_not_past_item,
          every_left,
          every_right,
          first_known,
          from_next,
          rest_listed,
          start_is_not_before_item,
          missing_gaps_is_within_item
              (flipped i.key.end) rest r,
        )
