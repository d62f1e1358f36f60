-- What one comparison of an element says of the items after it.
use Rattle.range_runs.proofs.Common.{common_steps, PLt, ◌≡◌, ℕ, zero, suc, ◌<◌, ◌≤◌, List, [], ◌∷◌, length, get_or, refl, sym, ◌∙◌, arith, Bool, not, ◌||◌, IsTrue, Every, Bound, Included, Excluded, Unbounded, Equal, is_gt, is_lt, is_eq, KeyOrder, IsLawful, start_position, end_position, position_cmp, position_total, Position, eq_is_equal, lt_is_less, not_greater, AnyRange, IsKeyRange, IsEmptyRange, starts_at_end, past, eq_ge, lt_not_le, le_lt_trans, lt_trans, every_at, every_weaker, flipped_bound_is_past, Item, EachNext, LiesBefore}
use Rattle.range_runs.specs.Searches.{ElementIsBefore}
use Rattle.range_runs.proofs.Forms.{before_is}
use Rattle.range_runs.proofs.Listed.{before_by_parts}

false_is_not_both : (t c : Bool) → (IsTrue t → ⊥) → IsTrue (not t || not c)
false_is_not_both test c h = grind (arith, common_steps)

module _ {K : Type 0} (order : KeyOrder K) (lawful : IsLawful order) where
  abbrev Start : AnyRange K → Position K
  Start r = start_position order r.start

  abbrev End : AnyRange K → Position K
  End r = end_position order r.end

  -- what starts where an end bound ends starts at the place past it
  pub touching_same : (e : Bound K) (p : Position K) → IsTrue (starts_at_end order e p)
      → position_cmp order.cmp (past order (end_position order e)) p ≡ Equal
  touching_same (Included a) p h = grind (arith, common_steps)
  touching_same (Excluded a) p h =
      let cmp = position_cmp order.cmp in
      let start = start_position order (Included a) in
      (position_total order.cmp lawful.total).congr (past order (end_position order (Excluded a)))
      start p (flipped_bound_is_past order lawful (Excluded a) (Included a) refl) ∙
      (eq_is_equal (cmp start p)).0 h
  touching_same Unbounded p h = absurd (cc)

  -- an element that is before a range is before what starts past its start
  before_later : (e r s : AnyRange K) (connected : Bool) → IsKeyRange order e
      → IsKeyRange order r → PLt lawful (Start r) (Start s) → ElementIsBefore order e connected r
      → ElementIsBefore order e connected s
  before_later e r s connected known others rise h =
      let cmp = position_cmp order.cmp in
      let touch = starts_at_end order e.end (Start r) in
      let old = (before_by_parts (is_lt (cmp (Start e) (Start r))) (is_lt (cmp (End e) (Start r)))
      touch (is_eq (cmp (End e) (End r))) (is_gt (cmp (Start e) (End r)))
      (starts_at_end order r.end (Start e)) (is_eq (cmp (Start e) (Start r)))
      (is_eq (cmp (End e) (End r))) connected).0 h in
      let starts = lt_trans lawful _ _ _ ((lt_is_less (cmp (Start e) (Start r))).0 old.0) rise in
      let below = (lt_is_less (cmp (End e) (Start r))).0 old.1 in
      let ends = lt_trans lawful _ _ _ below rise in
      let apart = le_lt_trans lawful _ _ _ ((before_is order lawful e.end r.start known.1
      others.0).0 below) rise in
      let touch' = starts_at_end order e.end (Start s) in
      (before_by_parts (is_lt (cmp (Start e) (Start s))) (is_lt (cmp (End e) (Start s))) touch'
      (is_eq (cmp (End e) (End s))) (is_gt (cmp (Start e) (End s)))
      (starts_at_end order s.end (Start e)) (is_eq (cmp (Start e) (Start s)))
      (is_eq (cmp (End e) (End s))) connected).1 (grind (arith, common_steps, lt_is_less, false_is_not_both, lt_not_le, eq_ge, touching_same))

  module _ {V : Type 0} where
    starts_rise : (i : Item (AnyRange K) V) (rest : List (Item (AnyRange K) V))
        → Every (λ j. IsEmptyRange order j.key → ⊥) (i ∷ rest)
        → EachNext (λ j k. LiesBefore order j.key k.key) (i ∷ rest)
        → Every (λ j. PLt lawful (Start i.key) (Start j.key)) rest
    starts_rise i [] full rising = tt
    starts_rise i (j ∷ rest) full rising =
        let cmp = position_cmp order.cmp in
        let first =
        le_lt_trans lawful _ _ _ (not_greater (cmp (Start i.key) (End i.key)) full.0) rising.0 in (
          first,
          every_weaker _ _ rest (λ k l.
              lt_trans lawful _ _ _ first l) (starts_rise j rest full.1 rising.1),
        )

    -- an element before one item is before each after it
    pub before_from : (items : List (Item (AnyRange K) V)) (e : AnyRange K) (connected : Bool)
        (m : ℕ) (x : Item (AnyRange K) V) → IsKeyRange order e → IsKeyRange order x.key
        → Every (λ j. IsEmptyRange order j.key → ⊥) items
        → EachNext (λ j k. LiesBefore order j.key k.key) items → x ≡ get_or items m x
        → ElementIsBefore order e connected x.key → (j : ℕ) (d : Item (AnyRange K) V) → m ≤ j
        → j < length items → ElementIsBefore order e connected (get_or items j d).key
    before_from [] e connected m x known others full rising read h j d from within = grind (arith, common_steps)
    before_from (y ∷ ys) e connected zero x known others full rising read h zero d from within = grind (arith, common_steps)
    before_from (y ∷ ys) e connected zero x known others full rising read h (suc j) d from within =
        let at : x ≡ y = read in
        let rise : Every (λ k. PLt lawful (Start x.key) (Start k.key)) ys =
        rw (sym at) at (starts_rise y ys full rising) in
        before_later e x.key (get_or ys j d).key connected known others
        (every_at (λ k. PLt lawful (Start x.key) (Start k.key)) ys j d rise (omega arith)) h
    before_from (y ∷ ys) e connected (suc m) x known others full rising read h zero d from within = grind (arith, common_steps)
    before_from (y ∷ ys) e connected (suc m) x known others full rising read h (suc j) d from within = grind (arith, common_steps, common_steps, before_from ys e connected m x known others full.1 rising.1 read h j d (omega arith) (omega arith))
