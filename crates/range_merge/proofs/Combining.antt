-- One side of a merged pass: what is left of a list, and what a piece takes of that.
use Rattle.std.proofs.Common.{◌≡◌, refl, ◌⊎◌, inl, inr, ◌+◌, ◌<◌, ◌≤◌, length, arith, Bool, true, Option, Some, None, List, [], ◌∷◌, ◌++◌}
use Rattle.std.specs.declared.ops.Bound.TheVariants.{Unbounded}
use Rattle.range_merge.proofs.Common.{option_map, IsEquivalence, KeyOrder, IsLawful, IsKeyRange, position_cmp, Position, Beside, At, lower, upper, Le, Lt, Any, Every, AnyRange, every_weaker, Item, IsBound, IsStored, line_of}
use Rattle.range_merge.specs.Combining.{IsConstantOn}
use Rattle.range_runs.proofs.PlaceOrder.{le_refl, lt_le, eq_le, eq_ge, le_trans, lt_not_le, cases, lt_le_trans}
use Rattle.range_merge.specs.Merged.{IsPlaced, IsCutFrom, IsUsedUp, StartAlike, IsFirstPiece}
use Rattle.range_algebra.proofs.Positions.{unbounded_start}
use Rattle.range_runs.specs.Window.{option_items}
use Rattle.range_runs.proofs.Chains.{chain_tail, follows_above}
use Rattle.range_runs.proofs.CoveredPlaces.{met_range_is_covered, chained_items_have_places}
use Rattle.range_runs.proofs.RangePieces.{any_with, any_over, every_with, lies_in}
use Rattle.range_runs.proofs.Forms.{Known, Chained, bound_hold, stored_chain, stored_known}

abbrev pub full_range : {K : Type 0} → AnyRange K
full_range = record { start = Unbounded; end = Unbounded }

pub some_of : {V W : Type 0} (v : Option V) (w : Option W) → (v ≡ None → w ≡ None → ⊥)
    → (v ≡ None → ⊥) ⊎ (w ≡ None → ⊥)
some_of (Some v) w some = inl (λ e. cc)
some_of None w some = inr (λ e. some refl e)

-- all values are one
abbrev alike : {V : Type 0} → V → V → Bool
alike a b = true

one_class : {V : Type 0} → IsEquivalence (alike {V = V})
one_class = record { refl = λ x. refl; symm = λ x y. refl; congr = λ x y z e. refl }

module _ {K : Type 0} (order : KeyOrder K) where
  abbrev pub PLe : Position K → Position K → Type 0
  PLe p q = Le (position_cmp order.cmp) p q

  -- the place is among those of the range
  abbrev pub HoldsAt : Position K → AnyRange K → Type 0
  HoldsAt p r = PLe (lower order r) p × Lt (position_cmp order.cmp) p (upper order r)

  module _ {V : Type 0} where
    abbrev pub SomeHoldsAt : Position K → List (Item (AnyRange K) V) → Type 0
    SomeHoldsAt p xs = Any (λ x. HoldsAt p x.key) xs

    -- with a value, the range is a part of an item of the list that has this value
    abbrev pub IsPartIn : List (Item (AnyRange K) V) → AnyRange K → Option V → Type 0
    IsPartIn items key None = Unit {0}
    IsPartIn items key (Some v) =
        Any (λ i. (i.value ≡ v) × PLe (lower order i.key) (lower order key)
        × PLe (upper order key) (upper order i.key)) items

    -- what is left of the list from a place on: nonempty parts of its items, one past the other
    abbrev pub IsLeftFrom : List (Item (AnyRange K) V) → Position K → List (Item (AnyRange K) V)
        → Type 0
    IsLeftFrom items m [] = Unit {0}
    IsLeftFrom items m (x ∷ xs) =
        PLe m (lower order x.key) × IsPlaced order x.key × IsPartIn items x.key (Some x.value)
        × IsLeftFrom items (upper order x.key) xs

    -- the items are nonempty, and each of their places is in what is left, or is done with
    pub record IsSideUpTo (items : List (Item (AnyRange K) V)) (m : Position K)
        (left : List (Item (AnyRange K) V)) (Done : Position K → Type 0) : Type 0 where
      pub placed : Every (λ i. IsPlaced order i.key) items
      pub apart : IsLeftFrom items (lower order full_range) items
      pub from : IsLeftFrom items m left
      pub seen : (p : Position K) → SomeHoldsAt p items → SomeHoldsAt p left ⊎ Done p

    -- what a piece takes of what is left
    pub record IsTaken (items left : List (Item (AnyRange K) V)) (m : Position K)
        (key : AnyRange K) (value : Option V) (after : List (Item (AnyRange K) V)) : Type 0 where
      pub starts : (value ≡ None → ⊥) → PLe m (lower order key)
      pub inside : IsPartIn items key value
      pub from : IsLeftFrom items (upper order key) after
      pub places : (p : Position K) → SomeHoldsAt p left
          → (HoldsAt p key × (value ≡ None → ⊥)) ⊎ SomeHoldsAt p after

module _ {K : Type 0} {order : KeyOrder K} (lawful : IsLawful order) {V : Type 0} where
  left_lower : (items xs : List (Item (AnyRange K) V)) (m n : Position K) → PLe order m n
      → IsLeftFrom order items n xs → IsLeftFrom order items m xs
  left_lower items [] m n le was = tt
  left_lower items (x ∷ xs) m n le was =
      (le_trans lawful m n _ le was.0, was.1, was.2, was.3)

  pub not_left : (items xs : List (Item (AnyRange K) V)) (m p : Position K)
      → IsLeftFrom order items m xs → Lt (position_cmp order.cmp) p m → SomeHoldsAt order p xs → ⊥
  not_left items [] m p was less at = at
  not_left items (x ∷ xs) m p was less (inl at) =
      lt_not_le lawful p m less (le_trans lawful _ _ _ was.0 at.0)
  not_left items (x ∷ xs) m p was less (inr at) =
      let past = le_trans lawful _ _ _ was.0 (lt_le lawful _ _ was.1.good) in
      not_left items xs (upper order x.key) p was.3 (lt_le_trans lawful _ _ _ less past) at

  module _ {items : List (Item (AnyRange K) V)} {m : Position K} {key : AnyRange K}
      (placed : IsPlaced order key) {rest : List (Item (AnyRange K) V)} where
    -- what a piece takes, by how it is cut from the first of what is left
    pub taken : (first : Option (Item (AnyRange K) V)) (value : Option V)
        (last : Option (Item (AnyRange K) V)) → (first ≡ None → rest ≡ [])
        → IsCutFrom order first key value last
        → IsLeftFrom order items m (option_items first ++ rest)
        → IsTaken order items (option_items first ++ rest) m key value (option_items last ++ rest)
    taken None None last none cut was = grind arith
    taken None (Some v) last none cut was = absurd cut
    taken (Some i) None last none cut was = grind arith
    taken (Some i) (Some v) None none cut was =
        record {
          starts = λ some. le_trans lawful _ _ _ was.0 (eq_ge lawful _ _ cut.1);
          inside = grind (arith, any_over, eq_ge, eq_le, le_trans);
          from = left_lower items rest _ _ (eq_le lawful _ _ cut.2) was.3;
          places = λ p h. elim h [
            | inl at ↦ grind (arith, eq_ge, eq_le, le_trans, lt_le_trans)
            | inr later ↦ inr later
          ];
        }
    taken (Some i) (Some v) (Some j) none cut was =
        let starts = eq_ge lawful _ _ cut.1 in
        let from = eq_le lawful _ _ cut.2.from in
        let upto = eq_le lawful _ _ cut.2.upto in
        let good = le_trans lawful _ _ _ (lt_le lawful _ _ placed.good) from in
        let past = le_trans lawful _ _ _ (lt_le lawful _ _ cut.2.placed.good) upto in
        record {
          starts = λ some. le_trans lawful _ _ _ was.0 starts;
          inside = grind (arith, any_over, le_trans);
          from = grind (arith, any_over, le_trans, left_lower);
          places = λ p h. elim h [
            | inl at ↦ elim (cases lawful p (upper order key)) [
              | inl less ↦
                  inl ((le_trans lawful _ _ _ (eq_le lawful _ _ cut.1) at.0, less), λ e. cc)
              | inr le ↦ inr (inl (grind (arith, eq_ge, le_trans, lt_le_trans)))
            ]
            | inr later ↦ inr (inr later)
          ];
        }

  module _ {items : List (Item (AnyRange K) V)} {m : Position K}
      {left : List (Item (AnyRange K) V)} {Done : Position K → Type 0}
      (was : IsSideUpTo order items m left Done) where
    known : Every (λ i. IsKeyRange order i.key) items
    known = every_weaker _ _ items (λ i placed. placed.known) was.placed

    -- where nothing is left, each key that the list binds is done with
    pub side_all : left ≡ [] → (k : K) → order.is_key k → IsBound order items k
        → Done (Beside k At)
    side_all none k key bound =
        let at : SomeHoldsAt order (Beside k At) items =
        any_over _ _ items (λ i h. h.0)
        ((bound_hold order lawful alike one_class items k known key).0 bound) in
        elim (was.seen (Beside k At) at) [
          | inl later ↦ absurd (rw none at later)
          | inr done ↦ done
        ]

    module _ {key : AnyRange K} {after : List (Item (AnyRange K) V)} where
      -- what is left past the piece
      pub side_more : {value : Option V} → IsTaken order items left m key value after
          → (Next : Position K → Type 0)
          → ((p : Position K) → Done p ⊎ HoldsAt order p key → Next p)
          → IsSideUpTo order items (upper order key) after Next
      side_more taken Next next = grind (arith, taken)

      -- the list is constant on a piece of which no place is done with
      pub constant_on : (value : Option V) → IsPlaced order key
          → IsTaken order items left m key value after
          → ((p : Position K) → HoldsAt order p key → Done p → ⊥)
          → IsConstantOn order items key value
      constant_on None placed taken new =
          λ met.
          let at =
          met_range_is_covered order lawful alike one_class key items placed.known placed.good
          known (every_weaker _ _ items (λ i placed. placed.good) was.placed) met in
          elim (was.seen at.place (any_over _ _ items (λ i h. h.0) at.held)) [
            | inl later ↦ grind (arith, not_left, taken)
            | inr done ↦ new at.place (at.from, at.upto) done
          ]
      constant_on (Some v) placed taken new = grind (arith, any_with, lies_in, taken)

module _ {K : Type 0} {order : KeyOrder K} (lawful : IsLawful order) {V : Type 0}
    {same : V → V → Bool} (equal : IsEquivalence same) (items : List (Item (AnyRange K) V)) where
  all_left : (xs : List (Item (AnyRange K) V)) (m : Position K)
      → Known order lawful same equal xs → Chained order lawful same equal xs
      → Every (λ x. PLe order m (lower order x.key)) xs
      → ((x : Item (AnyRange K) V) → Any (λ i. i ≡ x) xs → Any (λ i. i ≡ x) items)
      → IsLeftFrom order items m xs
  all_left [] m known chain from within = tt
  all_left (x ∷ xs) m known chain from within = (
    from.0,
    record { known = known.0; good = chain.0 },
    any_over _ _ items (λ i e. rw e (refl, le_refl lawful _, le_refl lawful _))
        (within x (inl refl)),
    all_left xs (upper order x.key) known.1
        (chain_tail (line_of order lawful same equal) x xs chain.1)
        (follows_above (line_of order lawful same equal) x xs chain.1)
        (λ y h. within y (inr h)),
  )

  -- at first all is left
  pub side_none : IsStored order same items → (Done : Position K → Type 0)
      → IsSideUpTo order items (lower order full_range) items Done
  side_none stored Done =
      let known = stored_known order lawful same equal items stored in
      let chain = stored_chain order lawful same equal items stored in
      let all =
      all_left items (lower order full_range) known chain
      (every_weaker _ _ items (λ i k. unbounded_start order lawful i.key.start k.0) known)
      (λ x h. h) in
      record {
        placed =
            every_with _ _ _ items known
            (chained_items_have_places order lawful same equal items chain)
            (λ i known good. record { known = known; good = good });
        apart = all;
        from = all;
        seen = λ p h. inl h;
      }

module _ {K : Type 0} (order : KeyOrder K) where
  -- what is left past a piece has no more ranges
  pub no_longer : {V : Type 0} (first : Option (Item (AnyRange K) V)) (key : AnyRange K)
      (value : Option V) (last : Option (Item (AnyRange K) V)) (rest : List (Item (AnyRange K) V))
      → IsCutFrom order first key value last
      → length (option_items last ++ rest) ≤ length (option_items first ++ rest)
  no_longer None key None last rest cut = rw cut (omega arith)
  no_longer None key (Some v) last rest cut = absurd cut
  no_longer (Some i) key None last rest cut = rw cut.0 (omega arith)
  no_longer (Some i) key (Some v) None rest cut = omega arith
  no_longer (Some i) key (Some v) (Some j) rest cut = omega arith

  -- a piece after which not both go on at one place, or before which they did, uses one range up
  pub fewer_ranges : {V W : Type 0} {left left_rest : Option (Item (AnyRange K) V)}
      {right right_rest : Option (Item (AnyRange K) W)} (xs : List (Item (AnyRange K) V))
      (ys : List (Item (AnyRange K) W)) {key : AnyRange K} {value : Option V} {other : Option W}
      → IsFirstPiece order left right key value other left_rest right_rest
      → ((¬ StartAlike order left right) → StartAlike order left_rest right_rest → ⊥)
      → length (option_items left_rest ++ xs) + length (option_items right_rest ++ ys)
      < length (option_items left ++ xs) + length (option_items right ++ ys)
  fewer_ranges {left} {left_rest} {right} {right_rest} xs ys piece apart =
      grind (arith, no_longer)

pub unmapped : {A B : Type 0} (f : A → B) (o : Option A) → option_map f o ≡ None → o ≡ None
unmapped f None e = refl
unmapped f (Some x) e = absurd (cc)
