-- Two chains sewn together at a place: below it stands what the one holds, and from it on what the
-- other does.
use Rattle.range_runs.proofs.Common.{arith, common_steps, ◌≡◌, refl, ℕ, suc, ◌+◌, length, get_or, Bool, true, List, [], ◌∷◌, ◌++◌, ◌↔◌, inl, inr, append-nil, Every, Equal, Le, Lt, any_left, any_right, any_split, every_weaker, every_append, Line, Leads, IsChain, Has, Respects, Leading, IsLeft, IsRight, IsFilledWith}
use Rattle.range_runs.proofs.Chains.{same_is_symmetric, chain_left, chain_right, follows_above, follows_like, strictly_leads, chain_before, chains_join, cases, lt_le, eq_le, eq_ge, le_trans, lt_le_trans, le_lt_trans}
use Rattle.range_runs.proofs.ChainSides.{none_below, none_above, only_first, only_second, like_item, leading_like}

pub through : {A B C : Type 0} → A ↔ B → B ↔ C → A ↔ C
through f g = (λ a. g.0 (f.0 a), λ c. f.1 (g.1 c))

module _ {L V X : Type 0} (line : Line L V X) where
  pub leading_last : (front : List X) (y : X) (c : L) (v : V) → IsChain line (front ++ y ∷ [])
      → Leads line y c v → Leading line c v (front ++ y ∷ [])
  leading_last front y c v chain leads =
      let before = chain_before line front y [] chain in
      let good = chain_right line front (y ∷ []) chain in
      every_append _ front (y ∷ []) (grind (arith, common_steps, every_weaker, strictly_leads, le_lt_trans, lt_le_trans)) (leads, tt)

  -- a chain leads to a place where its last item does
  pub leading_by : (xs : List X) (c : L) (v : V) → IsChain line xs
      → Every (λ x. Le line.cmp (line.hi x) c) xs
      → ((n : ℕ) → n + 1 ≡ length xs → (d : X) → Le line.cmp (line.hi (get_or xs n d)) c
      → Le line.cmp c (line.hi (get_or xs n d)) → line.same (line.value (get_or xs n d)) v ≡ true
      → ⊥) → Leading line c v xs
  leading_by [] c v chain ends apart = tt
  leading_by (x ∷ []) c v chain ends apart = ((ends.0, apart 0 refl x ends.0), tt)
  leading_by (x ∷ y ∷ ys) c v chain ends apart = grind (arith, common_steps, strictly_leads, le_lt_trans, lt_le_trans, leading_by (y ∷ ys) c v chain.1.1 ends.1 (λ n at. apart (suc n) (omega (arith, at))))

  pub record IsSewn (low high new : List X) (c : L) : Type 0 where
    pub chain : IsChain line new
    pub below : (p : L) (W : V → Bool) → Respects line W → Lt line.cmp p c
        → Has line W p new ↔ Has line W p low
    pub above : (p : L) (W : V → Bool) → Respects line W → Le line.cmp c p
        → Has line W p new ↔ Has line W p high

  -- a list that is sewn in at two places stands between them
  pub sewn_between : {items middle body new : List X} {c d : L} → Lt line.cmp c d
      → IsSewn items middle body c → IsSewn body items new d → IsFilledWith line items middle new c d
  sewn_between {c = c} {d = d} l first second = grind (arith, common_steps, through, lt_le_trans, lt_le)

  chain_apart : (front back : List X) (c : L) → IsChain line front → IsChain line back
      → Every (λ x. Le line.cmp (line.hi x) c) front → Every (λ x. Le line.cmp c (line.lo x)) back
      → ((y : X) (ys : List X) → back ≡ y ∷ ys → Le line.cmp (line.lo y) c
      → Leading line c (line.value y) front) → IsChain line (front ++ back)
  chain_apart front [] c chain other ends starts leads = rw (append-nil front) chain
  chain_apart front (y ∷ ys) c chain other ends starts leads =
      chains_join line front y ys chain other (elim (cases line c (line.lo y)) [
        | inl l ↦ every_weaker _ _ front
            (λ x h. strictly_leads line x _ _ (le_lt_trans line _ _ _ h l)) ends
        | inr le ↦ every_weaker _ _ front (λ x h. (grind (arith, common_steps, le_trans))) (leads y ys refl le)
      ])

  -- what is left of the one, and then what is left of the other
  pub sewn_apart : (low high front back : List X) (c : L) → IsLeft line low front c
      → IsRight line high back c → ((y : X) (ys : List X) → back ≡ y ∷ ys
      → Le line.cmp (line.lo y) c → Leading line c (line.value y) front)
      → IsSewn low high (front ++ back) c
  sewn_apart low high front back c left right leads = record {
    chain = chain_apart front back c left.chain right.chain left.ends right.starts leads;
    below = λ p W alike l. through (
      λ h. only_first (none_below line p c W back l right.starts) (any_split _ front back h),
      any_left _ front back,
    ) (left.holds p W alike l);
    above = λ p W alike l. through (
      λ h. only_second (none_above line p c W front l left.ends) (any_split _ front back h),
      any_right _ front back,
    ) (right.holds p W alike l);
  }

  -- an item of the one and an item of the other that both reach the place are made one
  pub sewn_joined : (front rest early behind : List X) (x y z : X) (c : L)
      → IsChain line (front ++ x ∷ rest) → IsChain line (early ++ y ∷ behind)
      → Le line.cmp (line.lo x) c → Le line.cmp c (line.hi x) → Le line.cmp (line.lo y) c
      → Lt line.cmp c (line.hi y) → line.cmp (line.lo z) (line.lo x) ≡ Equal
      → line.cmp (line.hi z) (line.hi y) ≡ Equal
      → line.same (line.value z) (line.value x) ≡ true
      → line.same (line.value z) (line.value y) ≡ true
      → IsSewn (front ++ x ∷ rest) (early ++ y ∷ behind) (front ++ z ∷ behind) c
  sewn_joined front rest early behind x y z c chain other x_low x_high y_low y_high at_lo at_hi
      like_x like_y =
      let low = eq_le line _ _ at_lo in
      let high = eq_ge line _ _ at_hi in
      let from_x = same_is_symmetric line (line.value z) (line.value x) like_x in
      let from_y = same_is_symmetric line (line.value z) (line.value y) like_y in
      let before = chain_before line front x rest chain in
      let earlier = chain_before line early y behind other in
      let more = (chain_right line front (x ∷ rest) chain).1 in
      let last = chain_right line early (y ∷ behind) other in
      let later = follows_above line y behind last.1 in
      let reaches = lt_le_trans line _ _ _ y_high high in
      let z_low = le_trans line _ _ _ low x_low in
      record {
        chain = chains_join line front z behind (chain_left line front (x ∷ rest) chain) (
          le_lt_trans line _ _ _ z_low reaches,
          follows_like line y z behind at_hi like_y last.1,
        ) (leading_like line front z (line.lo x) (line.value x) before at_lo like_x);
        below = λ p W alike l. (
          like_item line front front behind rest z x p W alike like_x (λ h. (
            le_trans line _ _ _ (eq_ge line _ _ at_lo) h.0,
            lt_le_trans line _ _ _ l x_high,
          )) (λ k. k) (λ k. absurd (none_below line p (line.hi y) W behind
              (lt_le_trans line _ _ _ l (lt_le line _ _ y_high)) later k)),
          like_item line front front rest behind x z p W alike from_x (λ h. (grind (arith, common_steps, le_trans, lt_le, lt_le_trans))) (λ k. k) (λ k. absurd (none_below line p (line.hi x) W rest
              (lt_le_trans line _ _ _ l x_high) (follows_above line x rest more) k)),
        );
        above = λ p W alike l. (
          like_item line front early behind behind z y p W alike like_y (λ h. (grind (arith, common_steps, le_trans, eq_le, lt_le_trans))) (λ k. absurd (none_above line p (line.lo x) W front (le_trans line _ _ _ x_low l)
              (every_weaker _ _ front (λ x h. h.0) before) k)) (λ k. k),
          like_item line early front behind behind y z p W alike from_y (λ h. (grind (arith, common_steps, le_trans, lt_le_trans))) (λ k. absurd (none_above line p (line.lo y) W early (le_trans line _ _ _ y_low l)
              (every_weaker _ _ early (λ x h. h.0) earlier) k)) (λ k. k),
        );
      }
