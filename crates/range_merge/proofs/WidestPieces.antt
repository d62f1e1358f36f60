-- Where ranges start and end, and that a piece between two such places is as wide as it goes.
use Rattle.std.proofs.Common.{◌≡◌, refl, sym, ap, ◌∙◌, ◌⊎◌, inl, inr, Option, Some, None, List, [], ◌∷◌, ◌++◌, arith, rules}
use Rattle.range_merge.proofs.Common.{every_weaker, KeyOrder, IsLawful, IsKeyRange, position_cmp, Position, Equal, lower, upper, Lt, Any, Every, AnyRange, Item, LiesIn}
use Rattle.range_merge.specs.Combining.{IsConstantOn, IsSharedPart, IsSharedPiece}
use Rattle.range_merge.specs.Merged.{IsPlaced, IsCutFrom, IsUsedUp, IsFirstPiece}
use Rattle.range_runs.specs.Window.{option_items}
use Rattle.range_runs.proofs.CoveredPlaces.{shared_place_is_overlap}
use Rattle.range_runs.proofs.Extents.{past_le}
use Rattle.range_runs.proofs.RangePieces.{any_over, any_use, any_with, lies_in}
use Rattle.range_runs.proofs.Windows.{every_both}
use Rattle.range_keys.proofs.Orderings.{equal_then_equal}
use Rattle.range_algebra.specs.RangeOrder.{range_cmp}
use Rattle.range_merge.proofs.FirstPieces.{itself}
use Rattle.range_merge.proofs.Combining.{PLe, HoldsAt, SomeHoldsAt, IsLeftFrom, IsSideUpTo, not_left, some_of}
use Rattle.range_runs.proofs.PlaceOrder.{le_refl, lt_le, eq_le, eq_ge, le_trans, le_lt_trans, lt_le_trans, lt_not_le, not_lt, cases, both}

module _ {K : Type 0} (order : KeyOrder K) {V : Type 0} where
  -- the place is one where an item starts or ends
  abbrev pub IsEndIn : List (Item (AnyRange K) V) → Position K → Type 0
  IsEndIn items p =
      Any (λ i. (position_cmp order.cmp p (lower order i.key) ≡ Equal)
      ⊎ (position_cmp order.cmp p (upper order i.key) ≡ Equal)) items

-- a place where an item of either list starts or ends
abbrev pub IsEnd : {K V W : Type 0} → KeyOrder K → List (Item (AnyRange K) V)
    → List (Item (AnyRange K) W) → Position K → Type 0
IsEnd order items others p = IsEndIn order items p ⊎ IsEndIn order others p

-- the range starts and ends at such places
abbrev pub LiesBetweenEnds : {K V W : Type 0} → KeyOrder K → List (Item (AnyRange K) V)
    → List (Item (AnyRange K) W) → AnyRange K → Type 0
LiesBetweenEnds order items others r =
    IsEnd order items others (lower order r) × IsEnd order items others (upper order r)

all_in : {X : Type 0} (items xs : List X)
    → ((x : X) → Any (λ i. i ≡ x) xs → Any (λ i. i ≡ x) items)
    → Every (λ x. Any (λ i. i ≡ x) items) xs
all_in items [] within = tt
all_in items (x ∷ xs) within = (within x (inl refl), all_in items xs (λ y h. within y (inr h)))

-- each item of a list is in it
members : {X : Type 0} (items : List X) → Every (λ x. Any (λ i. i ≡ x) items) items
members items = all_in items items (λ x h. h)

module _ {K : Type 0} {order : KeyOrder K} (lawful : IsLawful order) where
  same_place : (p q r : Position K) → position_cmp order.cmp p q ≡ Equal
      → position_cmp order.cmp q r ≡ Equal → position_cmp order.cmp p r ≡ Equal
  same_place p q r one other =
      both lawful p r (le_trans lawful p q r (eq_le lawful p q one) (eq_le lawful q r other))
      (le_trans lawful r q p (eq_ge lawful q r other) (eq_ge lawful p q one))

  module _ {V : Type 0} where
    end_moved : (items : List (Item (AnyRange K) V)) (p q : Position K)
        → position_cmp order.cmp p q ≡ Equal → IsEndIn order items q → IsEndIn order items p
    end_moved items p q same at =
        any_over _ _ items (λ i at. elim at [
          | inl start ↦ inl (same_place p q _ same start)
          | inr end ↦ inr (same_place p q _ same end)
        ]) at

    held_in : (xs : List (Item (AnyRange K) V)) (p : Position K) (a : Item (AnyRange K) V)
        → Any (λ i. i ≡ a) xs → HoldsAt order p a.key → SomeHoldsAt order p xs
    held_in xs p a in_a at = any_over _ _ xs (λ i e. rw e at) in_a

    -- two items that hold one place are one
    once : (items xs : List (Item (AnyRange K) V)) (m p : Position K) (a b : Item (AnyRange K) V)
        → IsLeftFrom order items m xs → Any (λ i. i ≡ a) xs → Any (λ i. i ≡ b) xs
        → HoldsAt order p a.key → HoldsAt order p b.key → a ≡ b
    once items [] m p a b was in_a in_b at_a at_b = absurd in_a
    once items (x ∷ xs) m p a b was in_a in_b at_a at_b =
        grind (
          arith,
          not_left lawful items xs (upper order x.key) p was.3,
          held_in xs p,
          once items xs (upper order x.key) p a b was.3,
        )

    module _ {items left : List (Item (AnyRange K) V)} {m : Position K}
        {Done : Position K → Type 0} (was : IsSideUpTo order items m left Done) where
      -- what a range with a value holds, an item of this value holds
      inside : (r : AnyRange K) → IsKeyRange order r → (v : V)
          → IsConstantOn order items r (Some v) → (p : Position K) → HoldsAt order p r
          → Any (λ i. HoldsAt order p i.key × (i.value ≡ v)) items
      inside r known v constant p at = grind (arith, any_with, le_trans, lt_le_trans, past_le)

      pub constant_held : (r : AnyRange K) → IsKeyRange order r → (v : Option V)
          → IsConstantOn order items r v → (v ≡ None → ⊥) → (p : Position K)
          → HoldsAt order p r → SomeHoldsAt order p items
      constant_held r known None constant some p at = absurd (some refl)
      constant_held r known (Some v) constant some p at =
          any_over _ _ items (λ i h. h.0) (inside r known v constant p at)

      not_inside : (r : AnyRange K) → IsKeyRange order r → IsConstantOn order items r None
          → (p : Position K) → HoldsAt order p r → SomeHoldsAt order p items → ⊥
      not_inside r known constant p at held =
          constant (any_with _ _ _ items held was.placed (λ i own placed.
          shared_place_is_overlap order lawful i.key r p placed.known known own.0 own.1 at.0 at.1))

      -- two ranges that share a place have one value
      one_value : (r s : AnyRange K) → IsKeyRange order r → IsKeyRange order s
          → (v w : Option V) → IsConstantOn order items r v → IsConstantOn order items s w
          → (p : Position K) → HoldsAt order p r → HoldsAt order p s → v ≡ w
      one_value r s known others None None constant also p at_r at_s = refl
      one_value r s known others None (Some w) constant also p at_r at_s =
          absurd (not_inside r known constant p at_r
          (constant_held s others (Some w) also (λ e. cc) p at_s))
      one_value r s known others (Some v) None constant also p at_r at_s =
          absurd (not_inside s others also p at_s
          (constant_held r known (Some v) constant (λ e. cc) p at_r))
      one_value r s known others (Some v) (Some w) constant also p at_r at_s =
          any_use _ _ items (inside r known v constant p at_r) (members items) (λ x at_x in_x.
          any_use _ _ items (inside s others w also p at_s) (members items) (λ y at_y in_y.
          let same = once items items _ p x y was.apart in_x in_y at_x.0 at_y.0 in
          ap Some (sym at_x.1 ∙ ap (λ i. i.value) same ∙ at_y.1)))

    module _ {items left : List (Item (AnyRange K) V)} {m : Position K}
        {Done : Position K → Type 0} (was : IsSideUpTo order items m left Done)
        (r : AnyRange K) (known : IsKeyRange order r) where
      -- an item holds all places of a range on which the list is constant, or none
      held_alike : (value : Option V) → IsConstantOn order items r value → (p q : Position K)
          → HoldsAt order p r → HoldsAt order q r → (z : Item (AnyRange K) V)
          → IsPlaced order z.key → Any (λ i. i ≡ z) items → HoldsAt order p z.key
          → HoldsAt order q z.key
      held_alike None constant p q at_p at_q z placed in_z held =
          absurd (not_inside was r known constant p at_p (held_in items p z in_z held))
      held_alike (Some v) constant p q at_p at_q z placed in_z held =
          any_use _ _ items constant (every_both _ _ items was.placed (members items))
          (λ x in_r own.
          let ends = past_le order lawful r.end x.key.end known.1 own.0.known.1 in_r.0.ends in
          let within : (s : Position K) → HoldsAt order s r → HoldsAt order s x.key =
          λ s at. grind (arith, le_trans, lt_le_trans) in
          rw (← once items items _ p x z was.apart own.1 in_z (within p at_p) held)
          (within q at_q))

      -- so no item starts or ends past a place of the range and not past another
      no_end_within : (value : Option V) → IsConstantOn order items r value → (p q : Position K)
          → HoldsAt order p r → HoldsAt order q r → Lt (position_cmp order.cmp) p q
          → IsEndIn order items q → ⊥
      no_end_within value constant p q at_p at_q less ends =
          any_use _ _ items ends (members items) (λ z at in_z.
          let placed = any_use _ _ items in_z was.placed (λ i same placed. rw (← same) placed) in
          let alike = held_alike value constant in
          elim at [
            | inl start ↦
                let here : HoldsAt order q z.key = (
                  eq_ge lawful _ _ start,
                  le_lt_trans lawful _ _ _ (eq_le lawful _ _ start) placed.good,
                ) in
                lt_not_le lawful p q less (le_trans lawful _ _ _ (eq_le lawful _ _ start)
                (alike q p at_q at_p z placed in_z here).0)
            | inr end ↦
                let past : (s : Position K) → HoldsAt order s r → PLe order (lower order z.key) s
                → Lt (position_cmp order.cmp) s q → ⊥ =
                λ s at_s from before.
                lt_not_le lawful q (upper order z.key) (alike s q at_s at_q z placed in_z (
                  from,
                  lt_le_trans lawful _ _ _ before (eq_le lawful _ _ end),
                )).1 (eq_ge lawful _ _ end) in
                elim (cases lawful p (lower order z.key)) [
                  | inl later ↦
                      let before =
                      lt_le_trans lawful _ _ _ placed.good (eq_ge lawful _ _ end) in
                      past (lower order z.key) (
                        le_trans lawful _ _ _ at_p.0 (lt_le lawful _ _ later),
                        le_lt_trans lawful _ _ _ (lt_le lawful _ _ before) at_q.1,
                      ) (le_refl lawful _) before
                  | inr from ↦ past p at_p from less
                ]
          ])

  module _ {V W : Type 0} {items left : List (Item (AnyRange K) V)}
      {others right : List (Item (AnyRange K) W)} {m : Position K} {Done : Position K → Type 0}
      (first : IsSideUpTo order items m left Done)
      (second : IsSideUpTo order others m right Done) where
    no_end : (r : AnyRange K) (v : Option V) (w : Option W) → IsSharedPart order items others r v w
        → (p q : Position K) → HoldsAt order p r → HoldsAt order q r
        → Lt (position_cmp order.cmp) p q → IsEnd order items others q → ⊥
    no_end r v w part p q at_p at_q less end = elim end [
      | inl own ↦ no_end_within first r part.known v part.first p q at_p at_q less own
      | inr own ↦ no_end_within second r part.known w part.second p q at_p at_q less own
    ]

    -- a range between two such places is as wide as those go on which both lists are constant
    pub widest : (key : AnyRange K) → IsPlaced order key → LiesBetweenEnds order items others key
        → (value : Option V) (other_value : Option W) (r : AnyRange K)
        → IsSharedPart order items others r value other_value → LiesIn order key r
        → LiesIn order r key
    widest key placed ends value other_value r part within =
        let upto = past_le order lawful key.end r.end placed.known.1 part.known.1 within.ends in
        let good = lt_le_trans lawful _ _ _ placed.good upto in
        lies_in order lawful r key part.known placed.known
        (search (rules, le_lt_trans, le_refl, lt_le, no_end, not_lt))
        (search (rules, le_trans, lt_le, no_end, not_lt))

    -- a piece whose first place lies in a part that ends at such a place is that part
    pub same_piece : (key piece : AnyRange K) (value v : Option V) (other_value w : Option W)
        → IsSharedPart order items others key value other_value
        → IsEnd order items others (upper order key)
        → IsSharedPiece order items others piece v w → HoldsAt order (lower order piece) piece
        → HoldsAt order (lower order piece) key
        → (range_cmp order key piece ≡ Equal) × (value ≡ v) × (other_value ≡ w)
    same_piece key piece value v other_value w shared end is first_at at =
        let part = is.part in
        let one =
        one_value first key piece shared.known part.known value v shared.first part.first _ at
        first_at in
        let other =
        one_value second key piece shared.known part.known other_value w shared.second part.second _
        at first_at in
        let within : LiesIn order piece key =
        lies_in order lawful piece key part.known shared.known at.0
        (not_lt lawful (upper order piece) (upper order key)
        (grind (arith, lt_le lawful, no_end))) in
        let wide = is.widest key (rw (← one, ← other) shared) within in
        grind (arith, both, equal_then_equal)

  module _ {V W : Type 0} (items : List (Item (AnyRange K) V))
      (others : List (Item (AnyRange K) W)) where
    moved : (p q : Position K) → position_cmp order.cmp p q ≡ Equal → IsEnd order items others q
        → IsEnd order items others p
    moved p q same at = grind (arith, end_moved)

    back : (p q : Position K) → position_cmp order.cmp p q ≡ Equal
        → position_cmp order.cmp q p ≡ Equal
    back p q same = both lawful q p (eq_ge lawful p q same) (eq_le lawful p q same)

    module _ {U : Type 0} where
      abbrev pub LieBetweenEnds : List (Item (AnyRange K) U) → Type 0
      LieBetweenEnds xs = Every (λ x. LiesBetweenEnds order items others x.key) xs

      module _ (key : AnyRange K) where
        -- what is left past a piece that ends at such a place
        pub rest_between : (first : Option (Item (AnyRange K) U)) (value : Option U)
            (last : Option (Item (AnyRange K) U)) (rest : List (Item (AnyRange K) U))
            → IsCutFrom order first key value last → IsEnd order items others (upper order key)
            → LieBetweenEnds (option_items first ++ rest)
            → LieBetweenEnds (option_items last ++ rest)
        rest_between None None last rest cut end all = rw cut all
        rest_between None (Some v) last rest cut end all = absurd cut
        rest_between (Some i) None last rest cut end all = rw cut.0 all
        rest_between (Some i) (Some v) None rest cut end all = all.1
        rest_between (Some i) (Some v) (Some j) rest cut end all = grind (arith, back, moved)

        starts_at_end : (first : Option (Item (AnyRange K) U)) (value : Option U)
            (last : Option (Item (AnyRange K) U)) (rest : List (Item (AnyRange K) U))
            → IsCutFrom order first key value last → (value ≡ None → ⊥)
            → LieBetweenEnds (option_items first ++ rest)
            → IsEnd order items others (lower order key)
        starts_at_end (Some i) (Some v) last rest cut some all = moved _ _ cut.1 all.0.0
        starts_at_end None (Some v) last rest cut some all = absurd cut
        starts_at_end first value last rest cut some all = absurd (some refl)

        ends_at_end : (first : Option (Item (AnyRange K) U)) (value : Option U)
            (last : Option (Item (AnyRange K) U)) (rest : List (Item (AnyRange K) U))
            → IsCutFrom order first key value last → IsUsedUp first last
            → LieBetweenEnds (option_items first ++ rest)
            → IsEnd order items others (upper order key)
        ends_at_end (Some i) (Some v) None rest cut used all = moved _ _ cut.2 all.0.1
        ends_at_end (Some i) None last rest cut used all = grind arith
        ends_at_end first value last rest cut used all = grind arith

        -- a side that goes on, as it was or from the end of the piece
        goes_on : (first : Option (Item (AnyRange K) U)) (value : Option U)
            (last : Option (Item (AnyRange K) U)) (j : Item (AnyRange K) U)
            → IsCutFrom order first key value last → last ≡ Some j
            → ((value ≡ None) × (first ≡ Some j))
            ⊎ ((position_cmp order.cmp (upper order key) (lower order j.key) ≡ Equal)
            × ((i : Item (AnyRange K) U) × (first ≡ Some i)
            × (position_cmp order.cmp (lower order key) (lower order i.key) ≡ Equal)))
        goes_on None None last j cut is = grind arith
        goes_on (Some i) None last j cut is = inl (refl, sym cut.0 ∙ is)
        goes_on (Some i) (Some v) (Some k) j cut is =
            let same : k ≡ j = cc in inr (rw (← same) cut.2.from, (i, refl, cut.1))
        goes_on first value last j cut is = grind arith

      first_start : (first : Option (Item (AnyRange K) U)) (i : Item (AnyRange K) U)
          (rest : List (Item (AnyRange K) U)) → first ≡ Some i
          → LieBetweenEnds (option_items first ++ rest)
          → IsEnd order items others (lower order i.key)
      first_start None i rest is all = absurd (cc)
      first_start (Some j) i rest is all = grind arith

    -- the first piece of two lists whose ranges lie between such places
    module _ {left left_rest : Option (Item (AnyRange K) V)}
        {right right_rest : Option (Item (AnyRange K) W)} {key : AnyRange K} {value : Option V}
        {other : Option W}
        (piece : IsFirstPiece order left right key value other left_rest right_rest)
        (xs : List (Item (AnyRange K) V)) (ys : List (Item (AnyRange K) W))
        (all : LieBetweenEnds (option_items left ++ xs))
        (all_others : LieBetweenEnds (option_items right ++ ys)) where
      piece_start : IsEnd order items others (lower order key)
      piece_start = grind (arith, some_of, starts_at_end)

      piece_end : IsEnd order items others (upper order key)
      piece_end =
          elim piece.progress [
            | inl used ↦ ends_at_end key left value left_rest xs piece.first used all
            | inr (inl used) ↦
                ends_at_end key right other right_rest ys piece.second used all_others
            | inr (inr now) ↦
                let alike = now.1 in
                elim (goes_on key left value left_rest alike.0 piece.first alike.2) [
                  | inl whole ↦
                      elim (goes_on key right other right_rest alike.1 piece.second alike.3) [
                        | inl also ↦ absurd (piece.bound whole.0 also.0)
                        | inr on ↦
                            moved _ _ (same_place _ _ _ on.0 (back _ _ alike.4))
                            (first_start left alike.0 xs whole.1 all)
                      ]
                  | inr on ↦
                      elim (goes_on key right other right_rest alike.1 piece.second alike.3) [
                        | inl whole ↦
                            moved _ _ (same_place _ _ _ on.0 alike.4)
                            (first_start right alike.1 ys whole.1 all_others)
                        | inr also ↦ absurd (now.0 (
                          on.1.0,
                          also.1.0,
                          on.1.1,
                          also.1.1,
                          same_place _ _ _ (back _ _ on.1.2) also.1.2,
                        ))
                      ]
                ]
          ]

      pub piece_between : LiesBetweenEnds order items others key
      piece_between = (piece_start, piece_end)

  own_end : {V : Type 0} (items : List (Item (AnyRange K) V))
      → Every (λ x. IsEndIn order items (lower order x.key)
      × IsEndIn order items (upper order x.key)) items
  own_end items =
      every_weaker _ _ items (grind (arith, any_over, itself lawful)) (members items)

  -- the ranges of the two lists do
  pub items_between : {V W : Type 0} (items : List (Item (AnyRange K) V))
      (others : List (Item (AnyRange K) W)) → LieBetweenEnds items others items
  items_between items others =
      every_weaker _ _ items (λ x ends. (inl ends.0, inl ends.1)) (own_end items)

  pub others_between : {V W : Type 0} (items : List (Item (AnyRange K) V))
      (others : List (Item (AnyRange K) W)) → LieBetweenEnds items others others
  others_between items others =
      every_weaker _ _ others (λ x ends. (inr ends.0, inr ends.1)) (own_end others)
