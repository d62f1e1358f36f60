-- Answers put one after the other, those that touch with equal values as one.
use Rattle.range_runs.proofs.Common.{cases, tied_itself, le_refl, le_lt_trans, lt_le_trans, common_steps, ◌⊎◌, ◌≡◌, refl, ap, ◌∙◌, ℕ, zero, suc, ◌+◌, ◌-◌, ◌<◌, Option, Some, None, Bool, true, List, [], ◌∷◌, ◌++◌, inl, inr, ◌↔◌, length, get_or, arith, Every, slice_set, Bound, Equal, IsEquivalence, tied_back, KeyOrder, IsLawful, end_position, position_cmp, position_total, Position, AnyRange, past, lower, upper, IsBoundClone, SameBound, same_start, IsKeyRange, Any, lt_le, eq_le, eq_ge, le_trans, PLe, PLt, any_left, any_split, every_weaker, every_append, every_left, every_right, line_of, Respects, sym, append-nil, lt_not_le, IsBoundOfKey, Touches, Item, Answered, JoinsNoLast, IsPut, with_end, item_lower}
use Rattle.range_runs.proofs.Chains.{chain_right}
use Rattle.range_runs.proofs.ChainSides.{like_item, none_above}
use Rattle.range_runs.proofs.Sewn.{IsSewn, leading_by, sewn_apart, sewn_joined, through}
use Rattle.range_runs.proofs.CutParts.{same_past}
use Rattle.range_runs.proofs.RangePieces.{any_end}
use Rattle.range_runs.proofs.Forms.{Known, Chained, Hold, touches_is}

split_last : {X : Type 0} (xs : List X) (k : ℕ) → k + 1 ≡ length xs
    → (front : List X) × (last : X) × (xs ≡ front ++ last ∷ []) × ((d : X) → get_or xs k d ≡ last)
    × ((y : X) → slice_set xs k y ≡ front ++ y ∷ [])
split_last [] k size = absurd (omega (arith, size))
split_last (x ∷ []) zero size = ([], x, refl, λ d. refl, λ y. refl)
split_last (x ∷ []) (suc k) size = absurd (omega (arith, size))
split_last (x ∷ z ∷ zs) zero size = absurd (omega (arith, size))
split_last (x ∷ z ∷ zs) (suc k) size =
    let rest = split_last (z ∷ zs) k (omega (arith, size)) in
    (x ∷ rest.0, rest.1, ap (λ ys. x ∷ ys) rest.2, rest.3, λ y. ap (λ ys. x ∷ ys) (rest.4 y))

-- what some item is, one of the others or the last is
any_but_end : {X : Type 0} (P : X → Type 0) (xs : List X) (y : X) → Any P (xs ++ y ∷ [])
    → Any P xs ⊎ P y
any_but_end P xs y h = elim (any_split P xs (y ∷ []) h) [
  | inl k ↦ inl k
  | inr k ↦ elim k [ inl e ↦ inr e | inr e ↦ absurd e ]
]

module _ {K : Type 0} (order : KeyOrder K) (lawful : IsLawful order) {V : Type 0}
    (same : V → V → Bool) (equal : IsEquivalence same) (r : AnyRange K) where
  abbrev past_of : Bound K → Position K
  past_of e = past order (end_position order e)

  -- the answer gives a value that is such
  abbrev pub Gives : (V → Bool) → Option V → Type 0
  Gives W None = ⊥
  Gives W (Some v) = W v ≡ true

  abbrev pub Alike : (V → Bool) → Type 0
  Alike W = Respects (line_of order lawful same equal) W

  -- a nonempty part between the places of the range
  abbrev pub IsWithin : AnyRange K → Type 0
  IsWithin key = IsKeyRange order key × PLe lawful (lower order r) (lower order key) × PLt lawful
      (lower order key) (upper order key) × PLe lawful (upper order key) (upper order r)

  abbrev HoldsAt : Position K → AnyRange K → Type 0
  HoldsAt p key = PLe lawful (lower order key) p × PLt lawful p (upper order key)

  -- the range of an item lies in the range, and before the place
  abbrev LiesUpTo : Position K → Item (AnyRange K) V → Type 0
  LiesUpTo m j = PLe lawful (lower order r) (lower order j.key) × PLe lawful (upper order j.key)
      (upper order r) × PLe lawful (upper order j.key) m

  -- the items bind what the answers so far say
  pub record IsFilledUpTo (m : Position K) (answers : List (Answered K V))
      (middle : List (Item (AnyRange K) V)) : Type 0 where
    pub known : Known order lawful same equal middle
    pub chain : Chained order lawful same equal middle
    pub inside : Every (LiesUpTo m) middle
    pub has : (p : Position K) (W : V → Bool) → Alike W → Hold order lawful same equal W p middle
        ↔ Any (λ a. HoldsAt p a.key × Gives W a.answer) answers
    pub valued : Every (λ j. Any (λ a. a.answer ≡ Some j.value) answers) middle

  pub filled_none : (m : Position K) → IsFilledUpTo m [] []
  filled_none m = grind (arith, common_steps)

  module _ (m n : Position K) (answers : List (Answered K V)) (key : AnyRange K)
      (inside : IsWithin key) (from : PLe lawful m (lower order key))
      (upto : PLe lawful (upper order key) n) where
    lies_up_to_later_place : (j : Item (AnyRange K) V) → LiesUpTo m j → LiesUpTo n j
    lies_up_to_later_place j h = (
      h.0,
      h.1,
      le_trans lawful _ _ _ h.2 (le_trans lawful _ _ _ from
          (le_trans lawful _ _ _ (lt_le lawful _ _ inside.2) upto)),
    )

    more_valued : (a : Answered K V) (middle : List (Item (AnyRange K) V))
        → Every (λ j. Any (λ b. b.answer ≡ Some j.value) answers) middle
        → Every (λ j. Any (λ b. b.answer ≡ Some j.value) (answers ++ a ∷ [])) middle
    more_valued a middle h = grind (arith, common_steps, every_weaker, any_left)

    filled_free : (value : Option V) (middle : List (Item (AnyRange K) V))
        → IsFilledUpTo m answers middle
        → IsFilledUpTo n (answers ++ record { key = key; value = value; answer = None } ∷ []) middle
    filled_free value middle was = grind (arith, common_steps, every_weaker, lies_up_to_later_place, common_steps, any_left, any_but_end, more_valued)

    -- the key bound to the answer's value, in a list that ends before it
    module _ (v : V) (value : Option V) (old : List (Item (AnyRange K) V))
        (was : IsFilledUpTo m answers old) where
      abbrev more : List (Answered K V)
      more = answers ++ record { key = key; value = value; answer = Some v } ∷ []

      ended : Every (λ i. PLe lawful (upper order i.key) m) old
      ended = every_weaker _ _ old (λ i h. h.2) was.inside

      old_valued : Every (λ j. Any (λ b. b.answer ≡ Some j.value) more) old
      old_valued = more_valued _ old was.valued

      -- the part, bound to the value
      abbrev Part : List (Item (AnyRange K) V)
      Part = record { key = key; value = v } ∷ []

      more_has : {new : List (Item (AnyRange K) V)} → IsSewn (line_of order lawful same equal) old
          Part new (lower order key) → (p : Position K) (W : V → Bool) → Alike W
          → Hold order lawful same equal W p new
          ↔ Any (λ a. HoldsAt p a.key × Gives W a.answer) more
      more_has sewn p W alike =
          let a : Answered K V = record { key = key; value = value; answer = Some v } in
          let P = λ (b : Answered K V). HoldsAt p b.key × Gives W b.answer in
          let before = was.has p W alike in
          elim (cases lawful p (lower order key)) [
            | inl under ↦ through (sewn.below p W alike under) (
              λ h. any_left P answers (a ∷ []) (before.0 h),
              λ h. before.1 (elim (any_but_end P answers a h)
                  [ inl g ↦ g | inr e ↦ absurd (lt_not_le lawful _ _ under e.0.0) ]),
            )
            | inr over ↦ through (sewn.above p W alike over) (
              λ h. elim h [ inl k ↦ any_end P answers a k | inr k ↦ absurd k ],
              λ h. inl (elim (any_but_end P answers a h) [
                | inl g ↦ absurd (none_above (line_of order lawful same equal) p m W old
                    (le_trans lawful _ _ _ from over) ended (before.1 g))
                | inr e ↦ e
              ]),
            )
          ]

      filled_bound : (front rest : List (Item (AnyRange K) V)) (j : Item (AnyRange K) V)
          → old ≡ front ++ rest → IsSewn (line_of order lawful same equal) old Part (front ++ j ∷ [])
          (lower order key) → position_cmp order.cmp (upper order j.key) (upper order key) ≡ Equal
          → IsKeyRange order j.key → PLe lawful (lower order r) (lower order j.key)
          → Any (λ b. b.answer ≡ Some j.value) more → IsFilledUpTo n more (front ++ j ∷ [])
      filled_bound front rest j list sewn to known starts valued =
          let under = eq_le lawful _ _ to in
          record {
            known = every_append (λ i. IsKeyRange order i.key) front (j ∷ [])
                (every_left _ front rest (rw list at was.known)) (known, tt);
            chain = sewn.chain;
            inside = every_append (LiesUpTo n) front (j ∷ []) (every_weaker (LiesUpTo m) (LiesUpTo n)
                front lies_up_to_later_place (every_left (LiesUpTo m) front rest
                (rw list at was.inside))) (
                  (grind (arith, common_steps, le_trans, inside)),
                  tt,
                );
            has = more_has sewn;
            valued = every_append _ front (j ∷ [])
                (every_left _ front rest (rw list at old_valued)) (valued, tt);
          }

      -- no item joins it
      filled_with_item_after : (own : AnyRange K) → IsKeyRange order own
          → position_cmp order.cmp (lower order own) (lower order key) ≡ Equal
          → position_cmp order.cmp (upper order own) (upper order key) ≡ Equal
          → JoinsNoLast order same old key v
          → IsFilledUpTo n more (old ++ record { key = own; value = v } ∷ [])
      filled_with_item_after own known at to apart =
          let line = line_of order lawful same equal in
          let c = lower order key in
          let j : Item (AnyRange K) V = record { key = own; value = v } in
          let x : Item (AnyRange K) V = record { key = key; value = v } in
          let under = every_weaker _ _ old (λ i le. le_trans lawful _ _ _ le from) ended in
          let full = le_lt_trans lawful _ _ _ (eq_le lawful _ _ at)
          (lt_le_trans lawful _ _ _ inside.2 (eq_ge lawful _ _ to)) in
          filled_bound old [] j (sym (append-nil old)) (sewn_apart line old Part old (j ∷ []) c
          (record { chain = was.chain; ends = under; holds = λ p W alike l. (λ h. h, λ h. h) })
          (record {
            chain = (full, tt);
            starts = (eq_ge lawful _ _ at, tt);
            holds = λ p W alike l. (
              like_item line [] [] [] [] j x p W alike (equal.refl v)
                  (λ h. (l, lt_le_trans lawful _ _ _ h.1 (eq_le lawful _ _ to))) (λ k. k) (λ k. k),
              like_item line [] [] [] [] x j p W alike (equal.refl v) (λ h. (grind (arith, common_steps, le_trans, eq_le, eq_ge, lt_le_trans))) (λ k. k) (λ k. k),
            );
          }) (λ y ys is low.
          let value : v ≡ y.value = cc in
          rw (← value) (leading_by line old c v was.chain under (λ k size d le on.
          let last : k ≡ length old - 1 = omega (arith, size) in
          rw last (apart d (omega (arith, size)) (grind (arith, common_steps, touches_is, inside))))))) to
          known (le_trans lawful _ _ _ inside.1 (eq_ge lawful _ _ at)) (any_end _ answers _ refl)

      -- the last item joins it
      filled_on : (front : List (Item (AnyRange K) V)) (last : Item (AnyRange K) V) (e : Bound K)
          → old ≡ front ++ last ∷ [] → IsBoundOfKey order e
          → position_cmp order.cmp (past_of e) (upper order key) ≡ Equal
          → Touches order last.key key → same last.value v ≡ true
          → IsFilledUpTo n more (front ++ with_end last e ∷ [])
      filled_on front last e list known to touching alike_values =
          let line = line_of order lawful same equal in
          let chain = rw list at was.chain in
          let good = chain_right line front (last ∷ []) chain in
          let within = every_right (LiesUpTo m) front (last ∷ []) (rw list at was.inside) in
          let before = le_trans lawful _ _ _ within.0.2 from in
          filled_bound front (last ∷ []) (with_end last e) list (rw list (sewn_joined line front [] []
          [] last (record { key = key; value = v }) (with_end last e) (lower order key) chain
          (inside.2, tt) (le_trans lawful _ _ _ (lt_le lawful _ _ good.0) before)
          ((touches_is order lawful last.key.end key inside.0 inside.2 before).0 touching)
          (le_refl lawful _) inside.2 (tied_itself (position_total order.cmp lawful.total)
          (item_lower order last)) to (equal.refl last.value) alike_values)) to (
            (every_right (λ i. IsKeyRange order i.key) front
                (last ∷ []) (rw list at was.known)).0.0,
            known,
          ) within.0.0 (every_right (λ i.
          Any (λ b. b.answer ≡ Some i.value) more) front (last ∷ [])
          (rw list at old_valued)).0

    module _ (is_clone : K → K → Type 0)
        (clones : (a b : Bound K) → IsBoundClone is_clone a b → SameBound order a b) where
      ends_there : (e : Bound K) → IsBoundClone is_clone key.end e
          → position_cmp order.cmp (past_of e) (upper order key) ≡ Equal
      ends_there e clone = tied_back (position_total order.cmp lawful.total) (upper order key)
          (past_of e) (same_past order lawful key.end e (clones key.end e clone))

      -- one answer more
      pub fill_more : (value answer : Option V) (old new : List (Item (AnyRange K) V))
          → IsFilledUpTo m answers old → IsPut order same is_clone old new key answer
          → IsFilledUpTo n (answers ++ record { key = key; value = value; answer = answer } ∷ [])
          new
      fill_more value None old new was put = rw put (filled_free value old was)
      fill_more value (Some v) old new was (inl put) = rw put.list
          (filled_with_item_after v value old was (record { start = put.start; end = put.end })
          put.known (grind (arith, common_steps, tied_back, position_total, same_start)) (ends_there put.end put.end_clone)
          put.apart)
      fill_more value (Some v) old new was (inr put) =
          let some : 0 < length old = put.joins.0 in
          let parts = split_last old (length old - 1) (omega (arith, some)) in
          let last = parts.1 in
          let joins = rw (parts.3 last) at (put.joins.1 last) in
          rw (rw (parts.3 last) at (put.list last) ∙ parts.4 (with_end last put.end))
          (filled_on v value old was parts.0 last put.end parts.2 put.known
          (ends_there put.end put.end_clone) joins.0 joins.1)
