-- A flag tells whether a bound over keys lies between the two: where none does, and where one does,
-- which.
use Rattle.std.specs.Prelude.{◌≡◌, Option, Some, None, Bool, true, false, ◌⊎◌, MatchBool, refl}
use Rattle.std.specs.declared.cmp.Ordering.{Ordering}
use Rattle.std.specs.declared.cmp.Ordering.TheVariants.{Less, Equal, Greater}
use Rattle.std.specs.declared.ops.Bound.{Bound}
use Rattle.std.specs.declared.ops.Bound.TheVariants.{Included, Excluded, Unbounded}
use Rattle.std.specs.Ordering.{is_eq, is_gt, ordering_then, ordering_reverse}
use Rattle.std.proofs.Common.{sym, ap, subst, ◌∙◌, inl, inr}
use Rattle.range_keys.specs.Order.{KeyOrder, IsLawful, Tells, SameAnswer}
use Rattle.range_keys.specs.PositionOrder.{position_total}
use Rattle.range_keys.specs.Position.{start_position, end_position, position_cmp, side_cmp, at_known}
use Rattle.range_keys.specs.Directed.{directed_value, directed_position, are_adjacent, tells, ordering_to}
use Rattle.range_keys.specs.Touching.{IsOverKeys, LiesBelow, SomeBoundBetween, FlagsTellGaps}
use Rattle.range_keys.specs.declared.inner.position.Side.{Side}
use Rattle.range_keys.specs.declared.inner.position.Side.TheVariants.{Before, At, After}
use Rattle.range_keys.specs.declared.inner.position.Position.{Position}
use Rattle.range_keys.specs.declared.inner.position.Position.TheVariants.{MinusInfinity, Beside, PlusInfinity}
use Rattle.range_keys.specs.declared.bound.BoundOrdering.TheVariants.{Excluded as Outer}
use Rattle.range_keys.specs.declared.bound.Directed.{Directed}
use Rattle.range_keys.specs.declared.bound.Directed.TheVariants.{Start, End}
use Rattle.range_keys.proofs.Orderings.{eq_is_equal}

module _ {K : Type 0} (order : KeyOrder K) where
  -- the positions that bounds over keys have
  abbrev IsPlace : Position K → Type 0
  IsPlace MinusInfinity = order.least ≡ None
  IsPlace (Beside a Before) = order.is_key a × (order.pred a ≡ None)
  IsPlace (Beside a At) = order.is_key a
  IsPlace (Beside a After) = order.is_key a × (order.succ a ≡ None)
  IsPlace PlusInfinity = order.greatest ≡ None

less_then : (o p : Ordering) → ordering_then o p ≡ Less → (o ≡ Less) ⊎ ((o ≡ Equal) × (p ≡ Less))
less_then Less p h = inl refl
less_then Equal p h = inr (refl, h)
less_then Greater p h = cc

-- nothing lies between two sides that follow one another, at equal keys
before_and_at : (o : Ordering) (s : Side)
    → ordering_then (ordering_reverse o) (side_cmp Before s) ≡ Less
    → ordering_then o (side_cmp s At) ≡ Less → ⊥
before_and_at Less s g h = cc
before_and_at Equal Before g h = cc
before_and_at Equal At g h = cc
before_and_at Equal After g h = cc
before_and_at Greater s g h = cc

at_and_after : (o : Ordering) (s : Side) → ordering_then (ordering_reverse o) (side_cmp At s) ≡ Less
    → ordering_then o (side_cmp s After) ≡ Less → ⊥
at_and_after Less s g h = cc
at_and_after Equal Before g h = cc
at_and_after Equal At g h = cc
at_and_after Equal After g h = cc
at_and_after Greater s g h = cc

reverse_same : (o : Ordering) → o ≡ ordering_reverse o → o ≡ Equal
reverse_same Less e = cc
reverse_same Equal e = refl
reverse_same Greater e = cc

module _ {K : Type 0} (order : KeyOrder K) (lawful : IsLawful order) where
  key_equals_itself : (a : K) → order.cmp a a ≡ Equal
  key_equals_itself a = reverse_same (order.cmp a a) (lawful.total.antisymm a a)

  exchanged_keys_reverse : (a b : K) (o : Ordering) → order.cmp a b ≡ o
      → order.cmp b a ≡ ordering_reverse o
  exchanged_keys_reverse a b o e = lawful.total.antisymm b a ∙ ap ordering_reverse e

  -- equal keys compare alike on the right
  congr_right : (a b c : K) → order.cmp b c ≡ Equal → order.cmp a b ≡ order.cmp a c
  congr_right a b c e =
      lawful.total.antisymm a b ∙ ap ordering_reverse (lawful.total.congr b c a e)
      ∙ sym (lawful.total.antisymm a c)

  by_key : (a b : K) (s t : Side) → order.cmp a b ≡ Less → LiesBelow order (Beside a s) (Beside b t)
  by_key a b s t l = ap (λ o. ordering_then o (side_cmp s t)) l

  by_side : (a b : K) (s t : Side) → order.cmp a b ≡ Equal → side_cmp s t ≡ Less
      → LiesBelow order (Beside a s) (Beside b t)
  by_side a b s t e l = ap (λ o. ordering_then o (side_cmp s t)) e ∙ l

  told_above : (a b : K) (o : Option K) → order.succ a ≡ o → Tells order o b → order.cmp a b ≡ Less
  told_above a b None e h = absurd h
  told_above a b (Some c) e h = sym (congr_right a c b h) ∙ lawful.succ_above a c e

  pred_below : (a b : K) → order.pred b ≡ Some a → order.cmp a b ≡ Less
  pred_below a b e = told_above a b (order.succ a) refl (lawful.pred_succ a b e)

  -- a key that equals one whose neighbour is told has a told neighbour
  told_next : (a c : K) (o p : Option K) → order.succ a ≡ o → order.succ c ≡ p
      → order.cmp a c ≡ Equal → SameAnswer order o p
  told_next a c o p e f g =
      subst (λ w. SameAnswer order w p) e
      (subst (λ w. SameAnswer order (order.succ a) w) f (lawful.succ_congr a c g))

  told_before : (a c : K) (o p : Option K) → order.pred a ≡ o → order.pred c ≡ p
      → order.cmp a c ≡ Equal → SameAnswer order o p
  told_before a c o p e f g =
      subst (λ w. SameAnswer order w p) e
      (subst (λ w. SameAnswer order (order.pred a) w) f (lawful.pred_congr a c g))

  -- the told next key of a equals no key that tells none before it, and the told key before b none
  -- that tells no next one
  has_before_by : (a x c : K) (o : Option K) → order.pred x ≡ o → Tells order o a
      → order.cmp x c ≡ Equal → order.pred c ≡ None → ⊥
  has_before_by a x c None e h g n = h
  has_before_by a x c (Some y) e h g n = told_before x c (Some y) None e n g

  has_before : (a x c : K) → order.succ a ≡ Some x → order.cmp x c ≡ Equal → order.pred c ≡ None → ⊥
  has_before a x c e g n = has_before_by a x c (order.pred x) refl (lawful.succ_pred a x e) g n

  has_next_by : (y b c : K) (o : Option K) → order.succ y ≡ o → Tells order o b
      → order.cmp c y ≡ Equal → order.succ c ≡ None → ⊥
  has_next_by y b c None e h g n = h
  has_next_by y b c (Some x) e h g n = told_next c y None (Some x) n e g

  has_next : (y b c : K) → order.pred b ≡ Some y → order.cmp c y ≡ Equal → order.succ c ≡ None → ⊥
  has_next y b c e g n = has_next_by y b c (order.succ y) refl (lawful.pred_succ y b e) g n

  start_place : (a : K) → order.is_key a → (o : Option K) → order.succ a ≡ o
      → IsPlace order (at_known o (Beside a After))
  start_place a p None e = (p, e)
  start_place a p (Some b) e = (lawful.succ_key a b e).1

  end_place : (a : K) → order.is_key a → (o : Option K) → order.pred a ≡ o
      → IsPlace order (at_known o (Beside a Before))
  end_place a p None e = (p, e)
  end_place a p (Some b) e = (lawful.pred_key b a e).0

  least_place : (o : Option K) → order.least ≡ o → IsPlace order (at_known o MinusInfinity)
  least_place None e = e
  least_place (Some m) e = lawful.least_key m e

  greatest_place : (o : Option K) → order.greatest ≡ o → IsPlace order (at_known o PlusInfinity)
  greatest_place None e = e
  greatest_place (Some m) e = lawful.greatest_key m e

  directed_position_is_place : (d : Directed (Bound K)) → IsOverKeys order (directed_value d)
      → IsPlace order (directed_position order d)
  directed_position_is_place (Start (Included a)) p = p
  directed_position_is_place (Start (Excluded a)) p = start_place a p (order.succ a) refl
  directed_position_is_place (Start Unbounded) p = least_place order.least refl
  directed_position_is_place (End (Included a)) p = p
  directed_position_is_place (End (Excluded a)) p = end_place a p (order.pred a) refl
  directed_position_is_place (End Unbounded) p = greatest_place order.greatest refl

  key_of : (c : K) (s : Side) → IsPlace order (Beside c s) → order.is_key c
  key_of c Before p = p.0
  key_of c At p = p
  key_of c After p = p.0

  -- no place lies above a and below its told next key
  none_next : (a b x c : K) (s : Side) → order.succ a ≡ Some x → order.cmp x b ≡ Equal
      → IsPlace order (Beside c s)
      → (order.cmp a c ≡ Less) ⊎ ((order.cmp a c ≡ Equal) × (side_cmp At s ≡ Less))
      → (order.cmp c b ≡ Less) ⊎ ((order.cmp c b ≡ Equal) × (side_cmp s At ≡ Less)) → ⊥
  none_next a b x c s e g p (inl l) (inl m) =
      let h : is_gt (order.cmp x c) ≡ false = lawful.none_between a x c e (key_of c s p) l in
      let i : is_gt (order.cmp x c) ≡ true =
      ap is_gt (lawful.total.congr x b c g ∙ exchanged_keys_reverse c b Less m) in
      cc
  none_next a b x c Before e g p (inl l) (inr m) =
      has_before a x c e (lawful.total.congr x b c g ∙ exchanged_keys_reverse c b Equal m.0) p.1
  none_next a b x c At e g p (inl l) (inr m) = let h = m.1 in cc
  none_next a b x c After e g p (inl l) (inr m) = let h = m.1 in cc
  none_next a b x c Before e g p (inr l) m = let h = l.1 in cc
  none_next a b x c At e g p (inr l) m = let h = l.1 in cc
  none_next a b x c After e g p (inr l) m = told_next a c (Some x) None e p.1 l.0

  equal_key_turns_order : (a b c : K) → order.cmp a b ≡ Equal
      → order.cmp a c ≡ ordering_reverse (order.cmp c b)
  equal_key_turns_order a b c e = lawful.total.congr a b c e ∙ lawful.total.antisymm b c

  told_after : (a b c : K) (s : Side) (o : Option K) → order.succ a ≡ o → tells order o b ≡ true
      → IsPlace order (Beside c s)
      → LiesBelow order (Beside a At) (Beside c s) → LiesBelow order (Beside c s) (Beside b At) → ⊥
  told_after a b c s None e f p g h = cc
  told_after a b c s (Some x) e f p g h =
      none_next a b x c s e ((eq_is_equal (order.cmp x b)).0 f) p
      (less_then (order.cmp a c) (side_cmp At s) g)
      (less_then (order.cmp c b) (side_cmp s At) h)

  none_at : (low high r : Position K) → are_adjacent order low high ≡ true → IsPlace order r
      → LiesBelow order low r → LiesBelow order r high → ⊥
  none_at (Beside a Before) (Beside b At) (Beside c s) f p g h =
      before_and_at (order.cmp c b) s
      (ap (λ o. ordering_then o (side_cmp Before s))
      (sym (equal_key_turns_order a b c ((eq_is_equal (order.cmp a b)).0 f))) ∙ g) h
  none_at (Beside a At) (Beside b After) (Beside c s) f p g h =
      at_and_after (order.cmp c b) s
      (ap (λ o. ordering_then o (side_cmp At s))
      (sym (equal_key_turns_order a b c ((eq_is_equal (order.cmp a b)).0 f))) ∙ g) h
  none_at (Beside a At) (Beside b At) (Beside c s) f p g h =
      told_after a b c s (order.succ a) refl f p g h
  none_at low high r f p g h = cc

  -- a place lies between
  abbrev Gap : Position K → Position K → Type 0
  Gap low high = (r : Position K) × IsPlace order r × LiesBelow order low r × LiesBelow order r high

  nothing_lies_under : (b : K) → order.is_key b → (o : Option K) → order.pred b ≡ o
      → Gap MinusInfinity (Beside b At)
  nothing_lies_under b q None e =
      (Beside b Before, (q, e), refl, by_side b b Before At (key_equals_itself b) refl)
  nothing_lies_under b q (Some c) e =
      (Beside c At, (lawful.pred_key c b e).0, refl, by_key c b At At (pred_below c b e))

  nothing_lies_over : (a : K) → order.is_key a → (o : Option K) → order.succ a ≡ o
      → Gap (Beside a At) PlusInfinity
  nothing_lies_over a p None e =
      (Beside a After, (p, e), by_side a a At After (key_equals_itself a) refl, refl)
  nothing_lies_over a p (Some x) e =
      (Beside x At, (lawful.succ_key a x e).1, by_key a x At At (lawful.succ_above a x e), refl)

  past_next : (a b x : K) (t : Side) (o : Ordering) → order.succ a ≡ Some x → order.is_key b
      → order.cmp a b ≡ Less → order.cmp x b ≡ o → (o ≡ Equal → ⊥) → Gap (Beside a At) (Beside b t)
  past_next a b x t Less e q l c n = (
    Beside x At,
    (lawful.succ_key a x e).1,
    by_key a x At At (lawful.succ_above a x e),
    by_key x b At t c,
  )
  past_next a b x t Equal e q l c n = absurd (n refl)
  past_next a b x t Greater e q l c n = let h =
      lawful.none_between a x b e q l in let i : is_gt (order.cmp x b) ≡ true =
      ap is_gt c in absurd (cc)

  next_or_before : (a b : K) → order.is_key a → order.is_key b → order.pred b ≡ None
      → order.cmp a b ≡ Less → (o : Option K) → order.succ a ≡ o
      → Gap (Beside a At) (Beside b Before)
  next_or_before a b p q n l None e = (
    Beside a After,
    (p, e),
    by_side a a At After (key_equals_itself a) refl,
    by_key a b After Before l,
  )
  next_or_before a b p q n l (Some x) e =
      past_next a b x Before (order.cmp x b) e q l refl (λ g. has_before a x b e g n)

  next_or_at : (a b : K) → order.is_key a → order.is_key b → order.cmp a b ≡ Less → (o : Option K)
      → order.succ a ≡ o → tells order o b ≡ false → Gap (Beside a At) (Beside b At)
  next_or_at a b p q l None e f = (
    Beside a After,
    (p, e),
    by_side a a At After (key_equals_itself a) refl,
    by_key a b After At l,
  )
  next_or_at a b p q l (Some x) e f =
      past_next a b x At (order.cmp x b) e q l refl
      (λ g. let h : is_eq (order.cmp x b) ≡ true = ap is_eq g in cc)

  -- no key lies above c and below its told next one
  not_below : (a b c : K) (o : Option K) → order.succ c ≡ o → order.is_key a → Tells order o b
      → order.cmp a b ≡ Less → order.cmp c a ≡ Less → ⊥
  not_below a b c None e p t l g = t
  not_below a b c (Some x) e p t l g =
      let h = lawful.none_between c x a e p g in
      let i : is_gt (order.cmp x a) ≡ true =
      ap is_gt (lawful.total.congr x b a t ∙ exchanged_keys_reverse a b Less l) in
      cc

  above_last_by : (a b c : K) (o : Ordering) → order.is_key a → order.succ a ≡ None
      → order.pred b ≡ Some c → order.cmp a b ≡ Less → order.cmp a c ≡ o
      → Gap (Beside a After) (Beside b At)
  above_last_by a b c Less p n e l g = (
    Beside c At,
    (lawful.pred_key c b e).0,
    by_key a c After At g,
    by_key c b At At (pred_below c b e),
  )
  above_last_by a b c Equal p n e l g = absurd (has_next c b a e g n)
  above_last_by a b c Greater p n e l g =
      absurd (not_below a b c (order.succ c) refl p (lawful.pred_succ c b e) l
      (exchanged_keys_reverse a c Greater g))

  above_last : (a b : K) → order.is_key a → order.is_key b → order.succ a ≡ None
      → order.cmp a b ≡ Less → (o : Option K) → order.pred b ≡ o
      → Gap (Beside a After) (Beside b At)
  above_last a b p q n l None e = (
    Beside b Before,
    (q, e),
    by_key a b After Before l,
    by_side b b Before At (key_equals_itself b) refl,
  )
  above_last a b p q n l (Some c) e = above_last_by a b c (order.cmp a c) p n e l refl

  abbrev IsOfStart : Position K → Type 0
  IsOfStart MinusInfinity = Unit {0}
  IsOfStart (Beside a Before) = ⊥
  IsOfStart (Beside a At) = Unit {0}
  IsOfStart (Beside a After) = Unit {0}
  IsOfStart PlusInfinity = ⊥

  abbrev IsOfEnd : Position K → Type 0
  IsOfEnd MinusInfinity = ⊥
  IsOfEnd (Beside a Before) = Unit {0}
  IsOfEnd (Beside a At) = Unit {0}
  IsOfEnd (Beside a After) = ⊥
  IsOfEnd PlusInfinity = Unit {0}

  neither_holds : {A : Type 0} → ⊥ ⊎ ⊥ → A
  neither_holds (inl h) = absurd h
  neither_holds (inr h) = absurd h

  -- where the places are not at equal keys
  less_at_either : {A : Type 0} (o p : Ordering) → ordering_then o p ≡ Less → (o ≡ Less → A)
      → (o ≡ Equal → p ≡ Less → A) → A
  less_at_either Less p l f g = f refl
  less_at_either Equal p l f g = g refl l
  less_at_either Greater p l f g = cc

  not_adjacent_is_gap : (low high : Position K) → IsPlace order low → IsPlace order high
      → IsOfStart high ⊎ IsOfEnd low → LiesBelow order low high
      → are_adjacent order low high ≡ false → Gap low high
  not_adjacent_is_gap MinusInfinity (Beside b Before) p q w l f = neither_holds w
  not_adjacent_is_gap MinusInfinity (Beside b At) p q w l f =
      nothing_lies_under b q (order.pred b) refl
  not_adjacent_is_gap MinusInfinity (Beside b After) p q w l f =
      (Beside b At, q.0, refl, by_side b b At After (key_equals_itself b) refl)
  not_adjacent_is_gap MinusInfinity PlusInfinity p q w l f = neither_holds w
  not_adjacent_is_gap (Beside a Before) (Beside b Before) p q w l f =
      less_at_either (order.cmp a b) Equal l
      (λ m. (
        Beside a At,
        p.0,
        by_side a a Before At (key_equals_itself a) refl,
        by_key a b At Before m,
      )) (λ m n. cc)
  not_adjacent_is_gap (Beside a Before) (Beside b At) p q w l f =
      less_at_either (order.cmp a b) Less l
      (λ m.
      (Beside a At, p.0, by_side a a Before At (key_equals_itself a) refl, by_key a b At At m))
      (λ m n. let h : is_eq (order.cmp a b) ≡ true = ap is_eq m in cc)
  not_adjacent_is_gap (Beside a Before) (Beside b After) p q w l f =
      less_at_either (order.cmp a b) Less l
      (λ m. (
        Beside a At,
        p.0,
        by_side a a Before At (key_equals_itself a) refl,
        by_key a b At After m,
      )) (λ m n. (
        Beside a At,
        p.0,
        by_side a a Before At (key_equals_itself a) refl,
        by_side a b At After m refl,
      ))
  not_adjacent_is_gap (Beside a Before) PlusInfinity p q w l f =
      (Beside a At, p.0, by_side a a Before At (key_equals_itself a) refl, refl)
  not_adjacent_is_gap (Beside a At) (Beside b Before) p q w l f =
      less_at_either (order.cmp a b) Greater l
      (λ m. next_or_before a b p q.0 q.1 m (order.succ a) refl) (λ m n. cc)
  not_adjacent_is_gap (Beside a At) (Beside b At) p q w l f =
      less_at_either (order.cmp a b) Equal l (λ m. next_or_at a b p q m (order.succ a) refl f)
      (λ m n. cc)
  not_adjacent_is_gap (Beside a At) (Beside b After) p q w l f =
      less_at_either (order.cmp a b) Less l
      (λ m.
      (Beside b At, q.0, by_key a b At At m, by_side b b At After (key_equals_itself b) refl))
      (λ m n. let h : is_eq (order.cmp a b) ≡ true = ap is_eq m in cc)
  not_adjacent_is_gap (Beside a At) PlusInfinity p q w l f =
      nothing_lies_over a p (order.succ a) refl
  not_adjacent_is_gap (Beside a After) (Beside b Before) p q w l f = neither_holds w
  not_adjacent_is_gap (Beside a After) (Beside b At) p q w l f =
      less_at_either (order.cmp a b) Greater l (λ m. above_last a b p.0 q p.1 m (order.pred b) refl)
      (λ m n. cc)
  not_adjacent_is_gap (Beside a After) (Beside b After) p q w l f =
      less_at_either (order.cmp a b) Equal l
      (λ m. (
        Beside b At,
        q.0,
        by_key a b After At m,
        by_side b b At After (key_equals_itself b) refl,
      )) (λ m n. cc)
  not_adjacent_is_gap (Beside a After) PlusInfinity p q w l f = neither_holds w
  not_adjacent_is_gap MinusInfinity MinusInfinity p q w l f = cc
  not_adjacent_is_gap (Beside a s) MinusInfinity p q w l f = cc
  not_adjacent_is_gap PlusInfinity MinusInfinity p q w l f = cc
  not_adjacent_is_gap PlusInfinity (Beside b t) p q w l f = cc
  not_adjacent_is_gap PlusInfinity PlusInfinity p q w l f = cc

  bound_at : (r : Position K) → IsPlace order r
      → (d : Directed (Bound K)) × IsOverKeys order (directed_value d)
      × (directed_position order d ≡ r)
  bound_at MinusInfinity p = (Start Unbounded, tt, ap (λ o. at_known o MinusInfinity) p)
  bound_at (Beside a Before) p = (End (Excluded a), p.0, ap (λ o. at_known o (Beside a Before)) p.1)
  bound_at (Beside a At) p = (Start (Included a), p, refl)
  bound_at (Beside a After) p = (Start (Excluded a), p.0, ap (λ o. at_known o (Beside a After)) p.1)
  bound_at PlusInfinity p = (End Unbounded, tt, ap (λ o. at_known o PlusInfinity) p)

  in_gap : (low high : Position K) → Gap low high → SomeBoundBetween order low high
  in_gap low high g =
      let d = bound_at g.0 g.1 in (
        d.0,
        d.1,
        subst (λ w. LiesBelow order low w) (sym d.2) g.2,
        subst (λ w. LiesBelow order w high) (sym d.2) g.3,
      )

  tells_gap : (low high : Position K) → IsPlace order low → IsPlace order high
      → IsOfStart high ⊎ IsOfEnd low → LiesBelow order low high
      → (flag : Bool) → are_adjacent order low high ≡ flag
      → MatchBool flag (¬ SomeBoundBetween order low high) (SomeBoundBetween order low high)
  tells_gap low high p q w l true f =
      λ d. none_at low high (directed_position order d.0) f
      (directed_position_is_place d.0 d.1) d.2 d.3
  tells_gap low high p q w l false f = in_gap low high (not_adjacent_is_gap low high p q w l f)

  told_of_start : (a : K) (o : Option K) → IsOfStart (at_known o (Beside a After))
  told_of_start a None = tt
  told_of_start a (Some b) = tt

  told_of_end : (a : K) (o : Option K) → IsOfEnd (at_known o (Beside a Before))
  told_of_end a None = tt
  told_of_end a (Some b) = tt

  least_of_start : (o : Option K) → IsOfStart (at_known o MinusInfinity)
  least_of_start None = tt
  least_of_start (Some b) = tt

  greatest_of_end : (o : Option K) → IsOfEnd (at_known o PlusInfinity)
  greatest_of_end None = tt
  greatest_of_end (Some b) = tt

  of_start : (b : Bound K) → IsOfStart (start_position order b)
  of_start (Included a) = tt
  of_start (Excluded a) = told_of_start a (order.succ a)
  of_start Unbounded = least_of_start order.least

  of_end : (b : Bound K) → IsOfEnd (end_position order b)
  of_end (Included a) = tt
  of_end (Excluded a) = told_of_end a (order.pred a)
  of_end Unbounded = greatest_of_end order.greatest

  start_tells : (low : Position K) (b : Bound K) → IsPlace order low → IsOverKeys order b
      → (o : Ordering) → position_cmp order.cmp low (start_position order b) ≡ o
      → (flag : Bool) → ordering_to order (Start b) low (start_position order b) o ≡ Outer flag
      → MatchBool flag (¬ SomeBoundBetween order low (start_position order b))
      (SomeBoundBetween order low (start_position order b))
  start_tells low b p q Less l flag e =
      let f : are_adjacent order low (start_position order b) ≡ flag = cc in
      tells_gap low (start_position order b) p (directed_position_is_place (Start b) q)
      (inl (of_start b)) l flag f
  start_tells low b p q Equal l flag e = cc
  start_tells low b p q Greater l flag e = cc

  end_tells : (high : Position K) (b : Bound K) → IsPlace order high → IsOverKeys order b
      → (o : Ordering) → position_cmp order.cmp high (end_position order b) ≡ o
      → (flag : Bool) → ordering_to order (End b) high (end_position order b) o ≡ Outer flag
      → MatchBool flag (¬ SomeBoundBetween order (end_position order b) high)
      (SomeBoundBetween order (end_position order b) high)
  end_tells high b p q Less l flag e = cc
  end_tells high b p q Equal l flag e = cc
  end_tells high b p q Greater l flag e =
      let f : are_adjacent order (end_position order b) high ≡ flag = cc in
      let m : LiesBelow order (end_position order b) high =
      (position_total order.cmp lawful.total).antisymm (end_position order b) high
      ∙ ap ordering_reverse l in
      tells_gap (end_position order b) high (directed_position_is_place (End b) q) p
      (inr (of_end b)) m flag f

  pub flags_tell_gaps : FlagsTellGaps order
  flags_tell_gaps self (Start b) p q flag e =
      start_tells (directed_position order self) b (directed_position_is_place self p) q
      (position_cmp order.cmp (directed_position order self) (start_position order b)) refl flag
      e
  flags_tell_gaps self (End b) p q flag e =
      end_tells (directed_position order self) b (directed_position_is_place self p) q
      (position_cmp order.cmp (directed_position order self) (end_position order b)) refl flag e
