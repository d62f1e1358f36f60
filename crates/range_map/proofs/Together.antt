-- Two lists of ranges in one pass over both: what the first ranges say of all.
use Rattle.range_map.proofs.Common.{common_steps, ◌≡◌, ◌<◌, ◌↔◌, inl, inr, Bool, Option, Some, None, List, [], ◌∷◌, ◌++◌, length, arith, MatchOption, option_map, Bor, KeyOrder, IsLawful, Any, Every, IsEmptyRange, LiesBefore, AnyRange, any_none, Item, shown_item, MeetsSome, LiesIn, IsStored, MeetNowhere, LieInside, le_trans, lt_not_le, lt_le_trans}
use Rattle.range_bulk.proofs.Ascending.{IsAscending, before_rest, before_through, stored_ascends, within}
use Rattle.range_runs.specs.Window.{option_items}

-- an iterator and what it gave next, as the list of both
abbrev pub ahead : {K V : Type 0} → Option (Bor (AnyRange K) × Bor V) → List (Item (AnyRange K) V)
    → List (Item (AnyRange K) V)
ahead next rest = option_items (option_map shown_item next) ++ rest

-- what an iterator gives next and what it has left then
abbrev Gives : {K V : Type 0} → List (Item (AnyRange K) V) → Option (Bor (AnyRange K) × Bor V)
    → List (Item (AnyRange K) V) → Type 0
Gives before next after =
    MatchOption next ((before ≡ []) × (after ≡ [])) (λ x. before ≡ shown_item x ∷ after)

stepped : {K V : Type 0} (before after : List (Item (AnyRange K) V))
    (next : Option (Bor (AnyRange K) × Bor V)) → Gives before next after
    → ahead next after ≡ before
stepped before after option steps = grind (arith, common_steps)

drained : {K V : Type 0} (before after : List (Item (AnyRange K) V))
    (next : Option (Bor (AnyRange K) × Bor V)) → Gives before next after → next ≡ None
    → after ≡ []
drained before after option steps e = grind (arith, common_steps)

-- the list of both is shorter by the one that it gave
pub shorter : {K V : Type 0} (before after : List (Item (AnyRange K) V))
    (was next : Option (Bor (AnyRange K) × Bor V)) (x : Bor (AnyRange K) × Bor V) → was ≡ Some x
    → Gives before next after → length (ahead next after) < length (ahead was before)
shorter before after was next x e steps = rw (e, stepped before after next steps) (omega arith)

pub none_met : {K V : Type 0} (order : KeyOrder K) (W : Type 0) (items : List (Item (AnyRange K) V))
    → MeetNowhere order {W = W} items []
none_met order W [] = tt
none_met order W (i ∷ items) = (λ h. h, none_met order W items)

module _ {K : Type 0} (order : KeyOrder K) where
  module _ {V W : Type 0} (M : List (Item (AnyRange K) V) → List (Item (AnyRange K) W) → Type 0)
    where
      -- what is left of two lists, which are so exactly where what is left is
      pub record IsLeft (items : List (Item (AnyRange K) V)) (others : List (Item (AnyRange K) W))
          (left : List (Item (AnyRange K) V)) (right : List (Item (AnyRange K) W)) : Type 0 where
        pub left_ascends : IsAscending order left
        pub right_ascends : IsAscending order right
        pub same : M items others ↔ M left right

      -- what is left where the iterators gave these next and have these left
      pub record IsPass (items : List (Item (AnyRange K) V)) (others : List (Item (AnyRange K) W))
          (next : Option (Bor (AnyRange K) × Bor V)) (ranges : List (Item (AnyRange K) V))
          (near : Option (Bor (AnyRange K) × Bor W))
          (rest : List (Item (AnyRange K) W)) : Type 0 where
        pub left : IsLeft items others (ahead next ranges) (ahead near rest)
        pub first : next ≡ None → ranges ≡ []
        pub second : near ≡ None → rest ≡ []

      -- what the first two ranges say: where they lie so, or the second lies before the first, what
      -- is behind them tells, and otherwise the lists are not so
      pub record IsTold (F : AnyRange K → AnyRange K → Type 0) (i : Item (AnyRange K) V)
          (left : List (Item (AnyRange K) V)) (j : Item (AnyRange K) W)
          (right : List (Item (AnyRange K) W)) : Type 0 where
        pub first : F i.key j.key → M (i ∷ left) (j ∷ right) ↔ M left (j ∷ right)
        pub second : LiesBefore order j.key i.key → M (i ∷ left) (j ∷ right) ↔ M (i ∷ left) right
        pub none : (¬ F i.key j.key) → (¬ LiesBefore order j.key i.key) → ¬ M (i ∷ left) (j ∷ right)

      abbrev pub Tells : (AnyRange K → AnyRange K → Type 0) → Type 0
      Tells F = (i : Item (AnyRange K) V) (left : List (Item (AnyRange K) V))
          (j : Item (AnyRange K) W) (right : List (Item (AnyRange K) W)) → IsAscending order (i ∷ left)
          → IsAscending order (j ∷ right) → IsTold F i left j right

module _ {K : Type 0} {order : KeyOrder K} (lawful : IsLawful order) where
  module _ {V W : Type 0} where
    -- at first both lists are left
    pub sets_out : (M : List (Item (AnyRange K) V) → List (Item (AnyRange K) W) → Type 0)
        {same : V → V → Bool} {same_other : W → W → Bool}
        (before ranges items : List (Item (AnyRange K) V))
        (next : Option (Bor (AnyRange K) × Bor V))
        (before_other rest others : List (Item (AnyRange K) W))
        (near : Option (Bor (AnyRange K) × Bor W)) → before ≡ items → before_other ≡ others
        → IsStored order same before → IsStored order same_other before_other
        → Gives before next ranges → Gives before_other near rest
        → IsPass order M items others next ranges near rest
    sets_out M before ranges items next before_other rest others near e f stored stored_other steps
        steps_other = grind (arith, common_steps, stepped, stored_ascends lawful, drained)

    -- a range before all of the first list tells nothing of them
    past_second : (P : Item (AnyRange K) V → List (Item (AnyRange K) W) → Type 0)
        (i : Item (AnyRange K) V) (left : List (Item (AnyRange K) V)) (j : Item (AnyRange K) W)
        (right : List (Item (AnyRange K) W))
        → ((x : Item (AnyRange K) V) → LiesBefore order j.key x.key → (¬ IsEmptyRange order x.key)
        → P x (j ∷ right) ↔ P x right) → IsAscending order (i ∷ left) → LiesBefore order j.key i.key
        → Every (λ x. P x (j ∷ right)) (i ∷ left) ↔ Every (λ x. P x right) (i ∷ left)
    past_second P i left j right f rising h =
        past_all (i ∷ left) rising (h, before_rest lawful j.key i.key left h rising.0 rising.1)
      where
        past_all : (xs : List (Item (AnyRange K) V)) → IsAscending order xs
            → Every (λ x. LiesBefore order j.key x.key) xs
            → Every (λ x. P x (j ∷ right)) xs ↔ Every (λ x. P x right) xs
        past_all [] rising all = (λ h. h, λ h. h)
        past_all (x ∷ xs) rising all = grind (arith, common_steps, past_all xs rising.2 all.1)

    pub apart_tells : Tells order (MeetNowhere order {V = V} {W = W}) (LiesBefore order)
    apart_tells i left j right rising rising' = record {
      first = λ h. (λ apart. apart.1, λ apart. (unmet h, apart));
      second =
          past_second (λ x others. ¬ MeetsSome order others x.key) i left j right
          (λ x before full. (λ none m. none (inr m), unmet_by x before)) rising;
      none = λ h k apart. apart.0 (inl (k, h));
    }
      where
        unmet : LiesBefore order i.key j.key → ¬ MeetsSome order (j ∷ right) i.key
        unmet h either = grind (arith, common_steps, any_none, before_through lawful)

        unmet_by : (x : Item (AnyRange K) V) → LiesBefore order j.key x.key
            → (¬ MeetsSome order right x.key) → ¬ MeetsSome order (j ∷ right) x.key
        unmet_by x before none either = grind (arith, common_steps)

    pub inside_tells : Tells order (LieInside order {V = V} {W = W}) (LiesIn order)
    inside_tells i left j right rising rising' = record {
      first = λ h. (λ inside. inside.1, λ inside. (inl h, inside));
      second =
          past_second (λ x others. Any (λ l. LiesIn order x.key l.key) others) i left j right
          (λ x before full. (in_rest x before full, λ inside. inr inside)) rising;
      none = grind (arith, common_steps, any_none, lt_le_trans);
    }
      where
        in_rest : (x : Item (AnyRange K) V) → LiesBefore order j.key x.key
            → (¬ IsEmptyRange order x.key) → Any (λ l. LiesIn order x.key l.key) (j ∷ right)
            → Any (λ l. LiesIn order x.key l.key) right
        in_rest x before full (inl inside) =
            absurd (lt_not_le lawful _ _ before
            (le_trans lawful _ _ _ (within lawful x.key full) inside.ends))
        in_rest x before full (inr inside) = inside

module _ {K V W : Type 0} {order : KeyOrder K}
    {M : List (Item (AnyRange K) V) → List (Item (AnyRange K) W) → Type 0}
    {items : List (Item (AnyRange K) V)} {others : List (Item (AnyRange K) W)}
    {next : Option (Bor (AnyRange K) × Bor V)} {ranges : List (Item (AnyRange K) V)}
    {near : Option (Bor (AnyRange K) × Bor W)} {rest : List (Item (AnyRange K) W)}
    (was : IsPass order M items others next ranges near rest) where
  pub none_right : near ≡ None → M items others ↔ M (ahead next ranges) []
  none_right e = grind (arith, common_steps)

  module _ {F : AnyRange K → AnyRange K → Type 0} (tells : Tells order M F)
      {pair : Bor (AnyRange K) × Bor V} {other : Bor (AnyRange K) × Bor W}
      (e : next ≡ Some pair) (f : near ≡ Some other) where
    both_left : IsLeft order M items others (shown_item pair ∷ ranges) (shown_item other ∷ rest)
    both_left = rw (e, f) at was.left

    told : IsTold order M F (shown_item pair) ranges (shown_item other) rest
    told = grind (arith, common_steps)

    pub goes_left : F pair.0.now other.0.now → (after : List (Item (AnyRange K) V))
        (result : Option (Bor (AnyRange K) × Bor V)) → Gives ranges result after
        → IsPass order M items others result after near rest
    goes_left h after result steps =
        grind (arith, common_steps, stepped, both_left, told, drained)

    pub goes_right : LiesBefore order other.0.now pair.0.now
        → (after : List (Item (AnyRange K) W)) (result : Option (Bor (AnyRange K) × Bor W))
        → Gives rest result after → IsPass order M items others next ranges result after
    goes_right h after result steps =
        grind (arith, common_steps, stepped, both_left, told, drained)

    pub not_so : (¬ F pair.0.now other.0.now) → (¬ LiesBefore order other.0.now pair.0.now)
        → ¬ M items others
    not_so h k m = told.none h k (both_left.same.0 m)
