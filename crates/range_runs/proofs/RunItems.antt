-- The items that a range meets are one run of a stored list.
use Rattle.range_runs.proofs.Common.{common_steps, PLe, PLt, lower, Every, any_none, any_left, any_right, any_split, every_at, list_is_take_and_drop, drop_all, unbounded_end, IsBoundOfKey, with_bounds, AnyRange, MeetsSome, IsStored, KeyOrder, IsLawful, start_position, end_position, position_cmp, Position, AreOverlapping, le_refl, lt_le, le_trans, lt_not_le, le_lt_trans, rank_or_len, Item, ◌≡◌, refl, sym, ap, ◌∙◌, ℕ, zero, suc, ◌+◌, ◌-◌, ◌<◌, ◌≤◌, Bool, true, false, List, [], ◌∷◌, ◌++◌, length, take, drop, length-drop, get_or, arith, Option, Some, None, inl, inr, drop-drop, IsEquivalence, is_gt, MatchOption, Bound, Included, Unbounded, IsFound, IsLastStarting, index_after}
use Rattle.std.proofs.lemmas.List.{take_all}
use Rattle.range_runs.proofs.Forms.{every_front, every_back}
use Rattle.range_runs.proofs.Found.{starts_rise, stored_tail, every_nonempty}
use Rattle.range_runs.proofs.Listed.{IsListed, stored_list_is_listed}
use Rattle.range_runs.proofs.RangePieces.{every_with}
use Rattle.std.proofs.Math.Seq.{take-append-add}
use Rattle.range_runs.proofs.Extents.{end_le}
use Rattle.range_runs.proofs.Windows.{first_of_run, last_of_run}

every_between : {X : Type 0} (P : X → Type 0) (m n : ℕ) (xs : List X) → Every P (take n xs)
    → Every P (take (n - m) (drop m xs))
every_between P zero n xs h = let whole : n - 0 ≡ n = omega arith in rw whole h
every_between P m zero xs h = let none : zero - m ≡ 0 = omega arith in rw none tt
every_between P m n [] h = every_front P (n - m) (drop m []) (every_back P m [] tt)
every_between P (suc m) (suc n) (x ∷ xs) h = grind (arith, common_steps, every_between P m n xs h.1)

module _ {K : Type 0} {order : KeyOrder K} (lawful : IsLawful order) where
  abbrev End : {V : Type 0} → Item (AnyRange K) V → Position K
  End i = end_position order i.key.end

  -- the end of all keys is the last
  pub ends_full : (e : Bound K) → IsBoundOfKey order e
      → PLe lawful (end_position order e) (end_position order Unbounded)
  ends_full e known = end_le order lawful e Unbounded known tt (unbounded_end order lawful e known)

  module _ {V : Type 0} (same : V → V → Bool) where
    first_starts_first : (i : Item (AnyRange K) V) (rest : List (Item (AnyRange K) V)) (n : ℕ)
        (y : Item (AnyRange K) V) → IsListed order lawful same (i ∷ rest) → n < length rest
        → y ≡ get_or rest n y → PLt lawful (lower order i.key) (lower order y.key)
    first_starts_first i rest n y h within read =
        rw read (le_lt_trans lawful _ _ _ (every_nonempty order lawful same (i ∷ rest) h).0
        (every_at _ rest n y (starts_rise order lawful same i rest h) within))

    -- the one item starts before the other just where it stands before it
    listed_order : (items : List (Item (AnyRange K) V)) (m n : ℕ) (x y : Item (AnyRange K) V)
        → IsListed order lawful same items → m < length items → n < length items
        → x ≡ get_or items m x → y ≡ get_or items n y
        → (m < n → PLt lawful (lower order x.key) (lower order y.key)) × (n ≤ m → PLe lawful (lower order y.key) (lower order x.key))
    listed_order [] m n x y h in_m in_n read read' = absurd (omega (arith, in_m))
    listed_order (i ∷ rest) zero zero x y h in_m in_n read read' = grind (arith, common_steps, le_refl)
    listed_order (i ∷ rest) zero (suc n) x y h in_m in_n read read' = grind (arith, common_steps, first_starts_first)
    listed_order (i ∷ rest) (suc m) zero x y h in_m in_n read read' = grind (arith, common_steps, lt_le, first_starts_first)
    listed_order (i ∷ rest) (suc m) (suc n) x y h in_m in_n read read' = grind (arith, common_steps, stored_tail, listed_order rest m n x y (stored_tail order lawful same i rest h) (omega (arith, in_m)) (omega (arith, in_n)) read read')

    pub stored_order : {items : List (Item (AnyRange K) V)} {m n : ℕ} {x y : Item (AnyRange K) V}
        → IsStored order same items → m < length items → n < length items
        → x ≡ get_or items m x → y ≡ get_or items n y →
        (is_gt (position_cmp order.cmp (lower order y.key) (lower order x.key)) ≡ true → m < n)
        × (is_gt (position_cmp order.cmp (lower order y.key) (lower order x.key)) ≡ false → n ≤ m)
    stored_order {items = items} {m = m} {n = n} {x = x} {y = y} stored in_m in_n read read' =
        let placed = listed_order items m n x y (stored_list_is_listed order lawful same items
        stored) in_m in_n read read' in (
          λ e. (grind (arith, common_steps)),
          λ e. (grind (arith, common_steps, lt_not_le)),
        )

  -- the items from the first that does not end before the range to the last that starts within it
  -- at the latest
  overlapping_are : {V : Type 0} (r : AnyRange K) (items : List (Item (AnyRange K) V)) (a b : ℕ)
      → Every (λ i. PLt lawful (End i) (start_position order r.start)) (take a items)
      → Every (λ i. PLe lawful (start_position order r.start) (End i)) (drop a items)
      → Every (λ i. PLe lawful (lower order i.key) (end_position order r.end)) (take b items)
      → Every (λ i. PLt lawful (end_position order r.end) (lower order i.key)) (drop b items)
      → AreOverlapping order items r (take (b - a) (drop a items))
  overlapping_are r items a b below above upto past =
      let same_place : a + (b - a) ≡ b + (a - b) = omega arith in
      let behind : drop (b - a) (drop a items) ≡ drop (a - b) (drop b items) = drop-drop (b - a) a
      items ∙ (ap (λ n. drop n items) same_place ∙ sym (drop-drop (a - b) b items)) in
      record {
        before = take a items;
        after = drop (b - a) (drop a items);
        split = list_is_take_and_drop items a ∙ ap (λ ys. take a items ++ ys)
            (list_is_take_and_drop (drop a items) (b - a));
        below = below;
        meet = every_with _ _ _ _ (every_front _ (b - a) (drop a items) above)
            (every_between _ a b items upto) (λ i h k. (grind (arith, common_steps, lt_not_le)));
        above = rw behind (every_back _ (a - b) (drop b items) past);
      }

  -- where none is shown, the range meets none
  pub none_shown : {V : Type 0} (items : List (Item (AnyRange K) V)) (r : AnyRange K)
      (met : List (Item (AnyRange K) V)) → AreOverlapping order items r met → met ≡ []
      → MeetsSome order items r → ⊥
  none_shown items r met are none h =
      elim (any_split _ are.before (met ++ are.after) (rw are.split at h)) [
        | inl k ↦ any_none _ _ are.before are.below (λ i l both. both.0 l) k
        | inr k ↦ any_none _ _ are.after are.above (λ i l both. both.1 l) (rw none at k)
      ]

  -- where the range meets none, none is shown
  pub all_shown : {V : Type 0} (items : List (Item (AnyRange K) V)) (r : AnyRange K)
      (met : List (Item (AnyRange K) V)) → AreOverlapping order items r met
      → (MeetsSome order items r → ⊥) → met ≡ []
  all_shown items r [] are none = refl
  all_shown items r (i ∷ rest) are none =
      absurd (none (rw are.split (any_right _ are.before ((i ∷ rest) ++ are.after)
      (any_left _ (i ∷ rest) are.after (inl are.meet.0)))))

module _ {K : Type 0} {order : KeyOrder K} (lawful : IsLawful order) {V : Type 0}
    {same : V → V → Bool} (equal : IsEquivalence same) {P : Type 0} (is_good : P → Type 0)
    (rank : P → ℕ) (items : List (Item (AnyRange K) V)) (stored : IsStored order same items) where
  -- what stands neither before what the first search finds nor after what the second does
  pub overlapping_found : (r : AnyRange K) (p e : Position K) → p ≡ start_position order r.start
      → e ≡ end_position order r.end → (before first last : Option P)
      → IsFound order is_good rank items p before first
      → IsLastStarting order is_good rank items e last (index_after rank last)
      → AreOverlapping order items r
      (take (index_after rank last - rank_or_len rank (length items) first)
      (drop (rank_or_len rank (length items) first) items))
  overlapping_found r p e low high before first last found ends = overlapping_are lawful r items
      (rank_or_len rank (length items) first) (index_after rank last) (rw low at found.below)
      (rw low at found.above) (rw high at ends.upto) (rw high at ends.past)

  at_end : (last : Option P)
      → MatchOption last (items ≡ []) (λ p. is_good p × (rank p + 1 ≡ length items))
      → index_after rank last ≡ length items
  at_end None h = rw h refl
  at_end (Some p) h = h.1

  -- all that stand not before what the search for a key finds
  pub found_onward : (k : K) → order.is_key k → (before first : Option P)
      → IsFound order is_good rank items (start_position order (Included k)) before first
      → AreOverlapping order items (with_bounds (Included k) Unbounded)
      (drop (rank_or_len rank (length items) first) items)
  found_onward k key before first found =
      let upper : Position K = end_position order Unbounded in
      let all : Every (λ i. PLe lawful (lower order i.key) upper) items = every_with _ _ _ items
      (every_nonempty order lawful same items (stored_list_is_listed order lawful same items
      stored)) stored.known (λ i own known. le_trans lawful _ _ _ own
      (ends_full lawful i.key.end known.1)) in
      let n = length items in
      let a = rank_or_len rank n first in
      rw (← take_all (n - a) (drop a items) (omega (arith, length-drop a items)))
      (overlapping_are lawful (with_bounds (Included k) Unbounded) items a n found.below
      found.above (every_front _ n items all) (rw (drop_all items n refl) tt))

  -- the same up to the last item
  pub found_from : (k : K) → order.is_key k → (before first last : Option P)
      → IsFound order is_good rank items (start_position order (Included k)) before first
      → MatchOption last (items ≡ []) (λ p. is_good p × (rank p + 1 ≡ length items))
      → AreOverlapping order items (with_bounds (Included k) Unbounded)
      (take (index_after rank last - rank_or_len rank (length items) first)
      (drop (rank_or_len rank (length items) first) items))
  found_from k key before first last found is_last =
      let a = rank_or_len rank (length items) first in
      rw (take_all (index_after rank last - a) (drop a items)
      (omega (arith, length-drop a items, at_end last is_last)))
      (found_onward k key before first found)

-- the last of the items that lie together stands at the last of their indices
pub near_last : {T : Type 0} (items near front : List T) (k : ℕ) (x : T)
    → near ≡ take (length near) (drop k items) → near ≡ front ++ x ∷ []
    → x ≡ get_or items (k + length front) x
near_last items near front k x is split = grind (arith, common_steps)

-- the first of a run and the rest, and the last and those before it
module _ {T : Type 0} (items : List T) (p q : ℕ) (x : T) (within : q < length items) where
  pub run_first : p ≤ q → x ≡ get_or items p x → (n : ℕ) → n ≡ p + 1
      → take (q + 1 - p) (drop p items) ≡ x ∷ take (q + 1 - n) (drop n items)
  run_first le read n next = grind (arith, common_steps, first_of_run)

  -- the first, those that lie with it, and the rest
  pub run_near : p ≤ q → x ≡ get_or items p x → (near : List T)
      → near ≡ take (length near) (drop (p + 1) items) → (n : ℕ) → n ≡ p + 1 + length near → n ≤ q
      → take (q + 1 - p) (drop p items) ≡ x ∷ (near ++ take (q + 1 - n) (drop n items))
  run_near le read near is n next upto =
      let behind = drop (p + 1) items in
      let left : q + 1 - (p + 1) ≡ length near + (q + 1 - n) = omega (arith, next, upto) in
      let far : drop (length near) behind ≡ drop n items =
      drop-drop (length near) (p + 1) items ∙ ap (λ m. drop m items) (sym next) in
      let parts : behind ≡ near ++ drop n items = list_is_take_and_drop behind (length near) ∙
      (ap (λ ys. ys ++ drop (length near) behind) (sym is) ∙ ap (λ ys. near ++ ys) far) in
      run_first le read (p + 1) refl ∙ ap (λ ys. x ∷ ys) (ap (λ m. take m behind) left ∙
      (ap (take (length near + (q + 1 - n))) parts ∙ take-append-add near (drop n items)
      (q + 1 - n)))

  pub run_last : p ≤ q → x ≡ get_or items q x → (n : ℕ) → n + 1 ≡ q
      → take (q + 1 - p) (drop p items) ≡ take (n + 1 - p) (drop p items) ++ x ∷ []
  run_last le read n next =
      let left : q + 1 - p - 1 ≡ n + 1 - p = omega (arith, next) in
      last_of_run items p (q + 1 - p) q x (omega (arith, le)) (omega (arith, le, within))
      (omega (arith, le)) read ∙ ap (λ m. take m (drop p items) ++ x ∷ []) left

  pub run_alone_first : p ≤ q → q ≤ p → x ≡ get_or items p x
      → take (q + 1 - p) (drop p items) ≡ x ∷ []
  run_alone_first le ge read = grind (arith, common_steps)

  pub run_alone : p ≤ q → q ≤ p → x ≡ get_or items q x → take (q + 1 - p) (drop p items) ≡ x ∷ []
  run_alone le ge read = grind (arith, common_steps)
