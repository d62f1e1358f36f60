-- One stored list after another: its form, and what it binds.
use Rattle.range_algebra.specs.Orders
use Rattle.range_bulk.proofs.Common.{Ordering, IsTotalOrder, ◌⊎◌, position_total, common_steps, ◌≡◌, refl, ap, ◌↔◌, ◌+◌, ◌-◌, ◌≤◌, ℕ, zero, suc, Bool, true, false, List, [], ◌∷◌, ◌++◌, length, get_or, inl, inr, arith, if◌then◌else◌, slice_set, and_from, and_parts, IsEquivalence, KeyOrder, IsLawful, Position, Le, Lt, Every, IsKeyRange, LiesBefore, AnyRange, every_append, every_right, every_weaker, Item, BindAlike, line_of, Leads, Follows, Respects, IsStored, item_lower, item_upper, IsApartFromLast, LieBefore, appended, are_one, as_one, joined, every_with, same_is_symmetric, follows_like, chain_before, chain_right, chain_above, places, Known, Chained, Hold, before_is, touches_is, stored_chain, stored_known, chain_stored, same_binds, le_refl, lt_le, le_trans, le_lt_trans, lt_trans, both}

-- two intervals, the one of which ends where the other starts, hold what one over both does
two_as_one : {L : Type 0} {cmp : L → L → Ordering} (total : IsTotalOrder cmp) (a b c d p : L)
    {A B R : Type 0} → Lt cmp a b → Le cmp b c → Le cmp c b → Lt cmp c d → (A → B) → (B → A)
    → (((Le cmp a p × Lt cmp p d) × A) ⊎ R)
    ↔ (((Le cmp a p × Lt cmp p b) × A) ⊎ (((Le cmp c p × Lt cmp p d) × B) ⊎ R))
two_as_one {cmp = cmp} total a b c d p ab bc cb cd to back =
    let from = Orders.le_trans cmp total a c p in
    let upto = Orders.lt_trans cmp total p b d in
    let over = Orders.le_trans cmp total c b p cb in
    let wide = Orders.le_lt_trans cmp total b c d bc cd in
    grind (arith, Orders.cases cmp total p b, Orders.le_trans cmp total a b c, Orders.lt_le cmp total)

module _ {K : Type 0} (order : KeyOrder K) {V : Type 0} where
  module _ (same : V → V → Bool) where
    pub appended_none : (items : List (Item (AnyRange K) V)) → appended order same items [] ≡ items
    appended_none (i ∷ k ∷ items) = ap (λ xs. i ∷ xs) (appended_none (k ∷ items))
    appended_none items = refl

    -- only the two items between which the lists meet may become one
    pub appended_last : (front : List (Item (AnyRange K) V)) (i j : Item (AnyRange K) V)
        (rest : List (Item (AnyRange K) V))
        → appended order same (front ++ i ∷ []) (j ∷ rest)
        ≡ front ++ (as_one order same i j ++ rest)
    appended_last (x ∷ y ∷ front) i j rest = ap (λ xs. x ∷ xs) (appended_last (y ∷ front) i j rest)
    appended_last front i j rest = refl

    -- the last item in place, joined with one more
    pub joined_last : (items : List (Item (AnyRange K) V)) (k : ℕ) (d j : Item (AnyRange K) V)
        → k + 1 ≡ length items → are_one order same (get_or items k d) j ≡ true
        → slice_set items k (joined (get_or items k d) j) ≡ appended order same items (j ∷ [])
    joined_last (i ∷ []) zero d j size one = rw one refl
    joined_last (i ∷ l ∷ items) (suc k) d j size one =
        ap (λ xs. i ∷ xs) (joined_last (l ∷ items) k d j (omega (arith, size)) one)
    joined_last items k d j size one = absurd (omega (arith, size))

    -- one more after the last item, with which it is not to be one
    pub parted_last : (items : List (Item (AnyRange K) V)) (k : ℕ) (d j : Item (AnyRange K) V)
        → k + 1 ≡ length items → are_one order same (get_or items k d) j ≡ false
        → items ++ j ∷ [] ≡ appended order same items (j ∷ [])
    parted_last [] k d j size apart = refl
    parted_last (i ∷ []) zero d j size apart = rw apart refl
    parted_last (i ∷ l ∷ items) (suc k) d j size apart =
        ap (λ xs. i ∷ xs) (parted_last (l ∷ items) k d j (omega (arith, size)) apart)
    parted_last items k d j size apart = absurd (omega (arith, size))

    -- one more where none is to be one with it
    pub pushed_apart : (items : List (Item (AnyRange K) V)) (j : Item (AnyRange K) V)
        → IsApartFromLast order same items j → items ++ j ∷ [] ≡ appended order same items (j ∷ [])
    pushed_apart [] j apart = refl
    pushed_apart (i ∷ items) j apart =
        parted_last (i ∷ items) (length (i ∷ items) - 1) j j (omega arith) (apart j (omega arith))

    pub appended_length : (items others : List (Item (AnyRange K) V))
        → length (appended order same items others) ≤ length items + length others
    appended_length (i ∷ k ∷ items) others = omega (arith, appended_length (k ∷ items) others)
    appended_length items others = grind (arith, common_steps)

module _ {K : Type 0} {order : KeyOrder K} (lawful : IsLawful order) {V : Type 0}
    {same : V → V → Bool} (equal : IsEquivalence same) where
  -- a list in its form, which holds what another does
  record IsAs (list other : List (Item (AnyRange K) V)) : Type 0 where
    known : Known order lawful same equal list
    chain : Chained order lawful same equal list
    holds : (W : V → Bool) (p : Position K) → Respects (line_of order lawful same equal) W
        → Hold order lawful same equal W p list ↔ Hold order lawful same equal W p other

  as_it_is : (list : List (Item (AnyRange K) V)) → Known order lawful same equal list
      → Chained order lawful same equal list → IsAs list list
  as_it_is list known chain =
      record { known = known; chain = chain; holds = λ W p respects. (λ h. h, λ h. h) }

  -- items that are to be one meet at one place, with equal values
  module _ (i j : Item (AnyRange K) V) (known : IsKeyRange order i.key)
      (other_known : IsKeyRange order j.key)
      (good : Lt (places order lawful) (item_lower order i) (item_upper order i))
      (other_good : Lt (places order lawful) (item_lower order j) (item_upper order j))
      (before : LiesBefore order i.key j.key) where
    upto : Le (places order lawful) (item_upper order i) (item_lower order j)
    upto = (before_is order lawful i.key.end j.key.start known.1 other_known.0).0 before

    meets : are_one order same i j ≡ true
        → Le (places order lawful) (item_lower order j) (item_upper order i)
    meets one = grind (arith, common_steps, touches_is, upto, and_parts)

    alike : are_one order same i j ≡ true → same i.value j.value ≡ true
    alike one = (and_parts _ _ one).1

    leads : are_one order same i j ≡ false
        → Leads (line_of order lawful same equal) i (item_lower order j) j.value
    leads apart = grind (arith, common_steps, upto, touches_is, and_from)

    one_as : (b : Bool) → are_one order same i j ≡ b → (rest : List (Item (AnyRange K) V))
        → Known order lawful same equal rest → Follows (line_of order lawful same equal) j rest
        → IsAs ((if b then joined i j ∷ [] else i ∷ j ∷ []) ++ rest) (i ∷ j ∷ rest)
    one_as false apart rest rest_known follows =
        as_it_is (i ∷ j ∷ rest) (known, (other_known, rest_known))
        (good, (leads apart, (other_good, follows)))
    one_as true one rest rest_known follows =
        let line = line_of order lawful same equal in
        let same_end = le_refl lawful _ in
        record {
          known = ((known.0, other_known.1), rest_known);
          chain = (
            lt_trans lawful _ _ _ good (le_lt_trans lawful _ _ _ upto other_good),
            follows_like line j (joined i j) rest (both lawful _ _ same_end same_end) (alike one)
                follows,
          );
          holds = λ W p respects.
              two_as_one (position_total order.cmp lawful.total) _ _ _ _ p good upto
              (meets one) other_good (respects i.value j.value (alike one))
              (respects j.value i.value (same_is_symmetric line _ _ (alike one)));
        }

  -- an item that leads to the first of the one list leads to what it begins with then
  follows_one : (i k j : Item (AnyRange K) V) (rest : List (Item (AnyRange K) V)) (b : Bool)
      → Leads (line_of order lawful same equal) i (item_lower order k) k.value
      → Chained order lawful same equal ((if b then joined k j ∷ [] else k ∷ j ∷ []) ++ rest)
      → Follows (line_of order lawful same equal) i
      ((if b then joined k j ∷ [] else k ∷ j ∷ []) ++ rest)
  follows_one i k j rest true leads chain = (leads, chain)
  follows_one i k j rest false leads chain = (leads, chain)

  follows_appended : (i k : Item (AnyRange K) V) (items others : List (Item (AnyRange K) V))
      → Leads (line_of order lawful same equal) i (item_lower order k) k.value
      → Chained order lawful same equal (appended order same (k ∷ items) others)
      → Follows (line_of order lawful same equal) i (appended order same (k ∷ items) others)
  follows_appended i k [] (j ∷ others) leads chain =
      follows_one i k j others (are_one order same k j) leads chain
  follows_appended i k items others leads chain = (leads, chain)

  appended_as : (items others : List (Item (AnyRange K) V)) → Known order lawful same equal items
      → Known order lawful same equal others → Chained order lawful same equal items
      → Chained order lawful same equal others → LieBefore order items others
      → IsAs (appended order same items others) (items ++ others)
  appended_as [] others known others_known chain others_chain before =
      as_it_is others others_known others_chain
  appended_as (i ∷ []) [] known others_known chain others_chain before =
      as_it_is (i ∷ []) known chain
  appended_as (i ∷ []) (j ∷ others) known others_known chain others_chain before =
      grind (arith, common_steps, one_as)
  appended_as (i ∷ k ∷ items) others known others_known chain others_chain before =
      let rest =
      appended_as (k ∷ items) others known.1 others_known chain.1.1 others_chain before.1 in
      record {
        known = (known.0, rest.known);
        chain = (chain.0, follows_appended i k items others chain.1.0 rest.chain);
        holds = λ W p respects.
            let later = rest.holds W p respects in (
              λ h. elim h [ inl own ↦ inl own | inr other ↦ inr (later.0 other) ],
              λ h. elim h [ inl own ↦ inl own | inr other ↦ inr (later.1 other) ],
            );
      }

  module _ (items others : List (Item (AnyRange K) V)) (form : IsStored order same items)
      (others_form : IsStored order same others) (before : LieBefore order items others) where
    both_as : IsAs (appended order same items others) (items ++ others)
    both_as =
        appended_as items others (stored_known order lawful same equal items form)
        (stored_known order lawful same equal others others_form)
        (stored_chain order lawful same equal items form)
        (stored_chain order lawful same equal others others_form) before

    -- where all of the one lie before all of the other, what comes of them is in the map's form
    pub appended_stored : IsStored order same (appended order same items others)
    appended_stored =
        chain_stored order lawful same equal (appended order same items others) both_as.known
        both_as.chain

    -- it binds what they bind
    pub appended_binds : BindAlike order same (appended order same items others) (items ++ others)
    appended_binds k key b =
        same_binds order lawful same equal (items ++ others) (appended order same items others) k
        (grind (arith, common_steps, every_append, stored_known)) both_as.known key
        (λ W respects. both_as.holds W _ respects) b

  -- what leads up to a place lies before all that start there at least
  pub lie_before_from : (p : Position K) (items others : List (Item (AnyRange K) V))
      → Known order lawful same equal items → Known order lawful same equal others
      → Every (λ i. Le (places order lawful) (item_upper order i) p) items
      → Every (λ j. Le (places order lawful) p (item_lower order j)) others
      → LieBefore order items others
  lie_before_from p [] others known others_known ends starts = tt
  lie_before_from p (i ∷ items) others known others_known ends starts = (
    every_with _ _ _ others others_known starts (grind (arith, common_steps, before_is, le_trans)),
    lie_before_from p items others known.1 others_known ends.1 starts,
  )

  -- the last of the one before the first of the other tells of all
  pub ends_tell : (front rest : List (Item (AnyRange K) V)) (i j : Item (AnyRange K) V)
      → IsStored order same (front ++ i ∷ []) → IsStored order same (j ∷ rest)
      → LiesBefore order i.key j.key ↔ LieBefore order (front ++ i ∷ []) (j ∷ rest)
  ends_tell front rest i j form others_form =
      let line = line_of order lawful same equal in
      let known = stored_known order lawful same equal (front ++ i ∷ []) form in
      let others_known = stored_known order lawful same equal (j ∷ rest) others_form in
      let chain = stored_chain order lawful same equal (front ++ i ∷ []) form in
      let others_chain = stored_chain order lawful same equal (j ∷ rest) others_form in
      let last_known = (every_right _ front (i ∷ []) known).0 in
      let last = chain_right line front (i ∷ []) chain in
      let hi = item_upper order i in
      let ends =
      every_append _ front (i ∷ []) (every_weaker _ _ front (λ z h.
      le_trans lawful _ _ _ h.0 (lt_le lawful _ _ last.0)) (chain_before line front i [] chain))
      (le_refl lawful _, tt) in (
        λ before. lie_before_from hi (front ++ i ∷ []) (j ∷ rest) known others_known ends
            (chain_above line hi j rest others_chain
            ((before_is order lawful i.key.end j.key.start last_known.1 others_known.0.0).0
            before)),
        λ all. (every_right _ front (i ∷ []) all).0.0,
      )
