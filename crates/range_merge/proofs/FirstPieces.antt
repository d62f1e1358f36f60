-- The first piece of two ranges, by the places where they start and end.
use Rattle.std.proofs.Common.{◌≡◌, refl, inl, inr, true, false, Option, Some, None, arith, rules}
use Rattle.std.specs.Cmp.{tied_back, tied_itself}
use Rattle.std.specs.declared.ops.Bound.TheVariants.{Unbounded}
use Rattle.range_merge.proofs.Common.{Bound, Ordering, Equal, KeyOrder, IsLawful, Position, position_cmp, lower, upper, Lt, AnyRange, Item}
use Rattle.range_keys.specs.Position.{start_position, end_position}
use Rattle.range_keys.specs.PositionOrder.{position_total}
use Rattle.range_algebra.specs.Compared.{flipped, starts_past_end}
use Rattle.range_algebra.specs.Cuts.{past}
use Rattle.range_algebra.specs.Range.{IsBoundOfKey}
use Rattle.range_algebra.proofs.Positions.{reaching_is_before_past, flipped_bound_is_past, flipped_back, flipped_known, unbounded_start, unbounded_end}
use Rattle.range_runs.proofs.Extents.{past_le, end_le}
use Rattle.range_runs.proofs.PlaceOrder.{eq_le, eq_ge, lt_not_le, lt_le_trans, le_lt_trans, not_le, not_lt, both}
use Rattle.range_merge.specs.Merged.{IsPlaced, IsPartPast, IsRestOf, StartAlike, IsFirstPiece}

module _ {K : Type 0} {order : KeyOrder K} (lawful : IsLawful order) where
  abbrev cmp : Position K → Position K → Ordering
  cmp = position_cmp order.cmp

  abbrev Past : Bound K → Position K
  Past e = past order (end_position order e)

  pub itself : (p : Position K) → cmp p p ≡ Equal
  itself p = tied_itself (position_total order.cmp lawful.total) p

  -- the places past two ends at one place are one place
  pub past_same : (e f : Bound K) → IsBoundOfKey order e → IsBoundOfKey order f
      → cmp (end_position order e) (end_position order f) ≡ Equal → cmp (Past e) (Past f) ≡ Equal
  past_same e f known others same =
      both lawful _ _ (past_le order lawful e f known others (eq_le lawful _ _ same))
      (past_le order lawful f e others known (eq_ge lawful _ _ same))

  -- a start that lies past another is not unbounded
  pub later_has_end : (r : AnyRange K) (s : Bound K) → IsPlaced order r
      → Lt cmp (lower order r) (start_position order s) → flipped s ≡ None → ⊥
  later_has_end r Unbounded placed later e =
      lt_not_le lawful _ _ later (unbounded_start order lawful r.start placed.known.0)
  later_has_end r s placed later e = cc

  -- an end that lies before another is not unbounded
  pub earlier_has_start : (r : AnyRange K) (e : Bound K) → IsPlaced order r
      → Lt cmp (end_position order e) (end_position order r.end) → flipped e ≡ None → ⊥
  earlier_has_start r Unbounded placed less is =
      lt_not_le lawful _ _ less (end_le order lawful r.end Unbounded placed.known.1 tt
      (unbounded_end order lawful r.end placed.known.1))
  earlier_has_start r e placed less is = cc

  module _ {V : Type 0} (i : Item (AnyRange K) V) (placed : IsPlaced order i.key) where
    left_from : (p : Position K) (s : Bound K) → IsBoundOfKey order s
        → cmp p (start_position order s) ≡ Equal
        → Lt cmp (start_position order s) (upper order i.key)
        → IsPartPast order i p
        (record { key = record { start = s; end = i.key.end }; value = i.value })
    left_from p s known at good = grind (arith, itself)

    -- what is left past an end
    pub is_part_past : (e s : Bound K) → IsBoundOfKey order e
        → Lt cmp (end_position order e) (end_position order i.key.end) → flipped e ≡ Some s
        → IsPartPast order i (Past e)
        (record { key = record { start = s; end = i.key.end }; value = i.value })
    is_part_past e s known less turns =
        let at = flipped_bound_is_past order lawful e s turns in
        left_from (Past e) s (flipped_known order lawful e s turns known) at
        (le_lt_trans lawful _ _ _ (eq_ge lawful _ _ at) (search (rules, end_le, lt_not_le, not_le)))

  module _ {V W : Type 0} (i : Item (AnyRange K) V) (j : Item (AnyRange K) W)
      (placed : IsPlaced order i.key) (placed_j : IsPlaced order j.key) where
    module _ (less : Lt cmp (lower order i.key) (lower order j.key)) where
      -- the first ends before the second starts
      pub whole_first : starts_past_end order j.key.start i.key.end ≡ true
          → IsFirstPiece order (Some i) (Some j) i.key (Some i.value) None None (Some j)
      whole_first over = grind (arith, itself, not_lt lawful, reaching_is_before_past)

      -- the second starts in the first
      pub cut_first : (e : Bound K) → flipped j.key.start ≡ Some e
          → starts_past_end order j.key.start i.key.end ≡ false
          → IsFirstPiece order (Some i) (Some j) (record { start = i.key.start; end = e })
          (Some i.value) None
          (Some (record {
            key = record { start = j.key.start; end = i.key.end };
            value = i.value;
          })) (Some j)
      cut_first e turns within =
          let s = j.key.start in
          let known = placed_j.known.0 in
          let at = flipped_bound_is_past order lawful e s (flipped_back order lawful s e turns) in
          record {
            placed = grind (arith, eq_ge, flipped_known, lt_le_trans);
            bound = λ e. cc;
            first = grind (arith, itself, left_from, reaching_is_before_past);
            second = (refl, eq_le lawful _ _ at);
            progress = inr (inr (λ e. cc, (_, j, refl, refl, itself _)));
          }

    module _ (alike : cmp (lower order i.key) (lower order j.key) ≡ Equal) where
      -- the first ends first, or both at once
      pub first_ends : (rest : Option (Item (AnyRange K) W)) → IsRestOf order j i.key rest
          → IsFirstPiece order (Some i) (Some j) i.key (Some i.value) (Some j.value) None rest
      first_ends rest is = grind (arith, itself)

      -- the second ends first
      pub second_ends : (rest : Item (AnyRange K) V) → IsPartPast order i (upper order j.key) rest
          → IsFirstPiece order (Some i) (Some j) (record { start = i.key.start; end = j.key.end })
          (Some i.value) (Some j.value) (Some rest) None
      second_ends rest past = record {
        placed = search (rules, eq_le, le_lt_trans);
        bound = λ e. cc;
        first = (refl, itself _, past);
        second = (refl, alike, itself _);
        progress = inr (inl (λ e. cc, refl));
      }

  alike_swapped : {V W : Type 0} {left : Option (Item (AnyRange K) V)}
      {right : Option (Item (AnyRange K) W)} → StartAlike order left right
      → StartAlike order right left
  alike_swapped h =
      (h.1, h.0, h.3, h.2, tied_back (position_total order.cmp lawful.total) _ _ h.4)

  -- the sides exchanged
  pub swapped : {V W : Type 0} {left left_rest : Option (Item (AnyRange K) V)}
      {right right_rest : Option (Item (AnyRange K) W)} {key : AnyRange K} {value : Option V}
      {other : Option W}
      → IsFirstPiece order left right key value other left_rest right_rest
      → IsFirstPiece order right left key other value right_rest left_rest
  swapped piece = record {
    placed = piece.placed;
    bound = λ e f. piece.bound f e;
    first = piece.second;
    second = piece.first;
    progress =
        elim piece.progress [
          | inl used ↦ inr (inl used)
          | inr (inl used) ↦ inl used
          | inr (inr now) ↦ inr (inr (λ h. now.0 (alike_swapped h), alike_swapped now.1))
        ];
  }

  -- one is left alone
  pub left_alone : {V W : Type 0} (i : Item (AnyRange K) V) → IsPlaced order i.key
      → IsFirstPiece order {W = W} (Some i) None i.key (Some i.value) None None None
  left_alone i placed = grind (arith, itself)
