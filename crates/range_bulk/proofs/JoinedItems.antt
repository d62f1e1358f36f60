-- Items put one after the other, where two that touch with equal values become one.
use Rattle.range_bulk.proofs.Common.{arith, common_steps, inl, inr, Bool, Some, None, List, [], ◌∷◌, ◌++◌, if◌then◌else◌, IsEquivalence, KeyOrder, IsLawful, position_cmp, Position, Beside, At, lower, Le, Lt, Every, Holds, IsEmptyRange, IsKeyRange, AnyRange, every_weaker, Item, BindAlike, BindsTo, IsBound, IsStored, item_lower, item_upper, full_range, held_between, unbounded_start, every_with, before_is, nonempty_good, stored_known, LieBefore, appended, are_one, joined, lt_le, le_trans, lt_not_le, lt_le_trans}
use Rattle.range_bulk.proofs.BoundKeys.{bound_split, binds_split}
use Rattle.range_bulk.proofs.Ascending.{IsAscending, stored_ascends}
use Rattle.range_bulk.proofs.AppendedLists.{appended_binds, appended_stored, lie_before_from}

module _ {K : Type 0} (order : KeyOrder K) {V : Type 0} where
  module _ (same : V → V → Bool) where
    more_bound : (xs ys more : List (Item (AnyRange K) V)) (k : K)
        → (¬ IsBound order ys k → ¬ IsBound order xs k) → ¬ IsBound order (ys ++ more) k
        → ¬ IsBound order (xs ++ more) k
    more_bound xs ys more k free none h = grind (arith, common_steps, bound_split)

    more_binds : (xs ys more : List (Item (AnyRange K) V)) (k : K) (v : V)
        → (BindsTo order same xs k v → BindsTo order same ys k v)
        → BindsTo order same (xs ++ more) k v → BindsTo order same (ys ++ more) k v
    more_binds xs ys more k v to h = grind (arith, common_steps, binds_split)

    -- two lists that bind alike do so with the same items after both
    alike_more : (xs ys more : List (Item (AnyRange K) V)) → BindAlike order same xs ys
        → BindAlike order same (xs ++ more) (ys ++ more)
    alike_more xs ys more alike k key None =
        let old = alike k key None in
        (more_bound ys xs more k old.0, more_bound xs ys more k old.1)
    alike_more xs ys more alike k key (Some v) =
        let old = alike k key (Some v) in
        (more_binds xs ys more k v old.0, more_binds ys xs more k v old.1)

  -- nonempty ranges of keys from a place on, each from where the one before ends at least
  abbrev pub RisesFrom : Position K → List (Item (AnyRange K) V) → Type 0
  RisesFrom m [] = Unit {0}
  RisesFrom m (i ∷ rest) =
      IsKeyRange order i.key × (¬ IsEmptyRange order i.key)
      × Le (position_cmp order.cmp) m (item_lower order i) × RisesFrom (item_upper order i) rest

  -- in stored form, up to a place, and with the bindings of those that were given
  pub record IsBuilt (same : V → V → Bool) (m : Position K)
      (given built : List (Item (AnyRange K) V)) : Type 0 where
    pub stored : IsStored order same built
    pub upto : Every (λ i. Le (position_cmp order.cmp) (item_upper order i) m) built
    pub bound : BindAlike order same built given

  pub built_none : (same : V → V → Bool) (m : Position K) → IsBuilt same m [] []
  built_none same m = grind (arith, common_steps)

module _ {K : Type 0} {order : KeyOrder K} (lawful : IsLawful order) {V : Type 0} where
  rises_from : (m : Position K) (items : List (Item (AnyRange K) V))
      → Every (λ i. IsKeyRange order i.key) items → IsAscending order items
      → Every (λ i. Le (position_cmp order.cmp) m (item_lower order i)) items
      → RisesFrom order m items
  rises_from m [] known up from = tt
  rises_from m (i ∷ rest) known up from = (
    known.0,
    up.0,
    from.0,
    rises_from (item_upper order i) rest known.1 up.2 (every_with _ _ _ rest known.1 up.1
        (λ j known_j l. (before_is order lawful i.key.end j.key.start known.0.1 known_j.0).0 l)),
  )

  -- known ranges that ascend rise from the least place
  pub ascending_rises : (items : List (Item (AnyRange K) V))
      → Every (λ i. IsKeyRange order i.key) items → IsAscending order items
      → RisesFrom order (lower order full_range) items
  ascending_rises items known up =
      grind (arith, common_steps, rises_from, every_weaker, unbounded_start)

  pub stored_rises : {same : V → V → Bool} → IsEquivalence same
      → (items : List (Item (AnyRange K) V)) → IsStored order same items
      → RisesFrom order (lower order full_range) items
  stored_rises {same = same} equal items stored =
      grind (arith, common_steps, ascending_rises, stored_known, stored_ascends)

module _ {K : Type 0} {order : KeyOrder K} (lawful : IsLawful order) {V : Type 0}
    {same : V → V → Bool} (equal : IsEquivalence same) where
  one_upto : (n : Position K) (i j : Item (AnyRange K) V) (b : Bool)
      → Le (position_cmp order.cmp) (item_upper order i) n
      → Le (position_cmp order.cmp) (item_upper order j) n
      → Every (λ x. Le (position_cmp order.cmp) (item_upper order x) n)
      ((if b then joined i j ∷ [] else i ∷ j ∷ []) ++ [])
  one_upto n i j test first second = grind (arith, common_steps)

  appended_upto : (n : Position K) (items : List (Item (AnyRange K) V)) (j : Item (AnyRange K) V)
      → Every (λ x. Le (position_cmp order.cmp) (item_upper order x) n) items
      → Le (position_cmp order.cmp) (item_upper order j) n
      → Every (λ x. Le (position_cmp order.cmp) (item_upper order x) n)
      (appended order same items (j ∷ []))
  appended_upto n [] j ends last = (last, tt)
  appended_upto n (i ∷ []) j ends last = one_upto n i j (are_one order same i j) ends.0 last
  appended_upto n (i ∷ k ∷ items) j ends last = (ends.0, appended_upto n (k ∷ items) j ends.1 last)

  -- one item more
  pub built_more : (m n : Position K) (given built : List (Item (AnyRange K) V))
      (j : Item (AnyRange K) V) → IsKeyRange order j.key → (¬ IsEmptyRange order j.key)
      → Le (position_cmp order.cmp) m (item_lower order j)
      → Le (position_cmp order.cmp) (item_upper order j) n → IsBuilt order same m given built
      → IsBuilt order same n (given ++ j ∷ []) (appended order same built (j ∷ []))
  built_more m n given built j known nonempty from upto was =
      let cmp = position_cmp order.cmp in
      let last = j ∷ [] in
      let form : IsStored order same last =
      record { known = (known, tt); nonempty = (nonempty, tt); rising = (tt, tt) } in
      let good = lt_le lawful _ _ ((nonempty_good order lawful j.key known).0 nonempty) in
      let later : Le cmp m n = le_trans lawful _ _ _ from (le_trans lawful _ _ _ good upto) in
      let before : LieBefore order built last =
      lie_before_from lawful equal m built last
      (stored_known order lawful same equal built was.stored) (known, tt) was.upto (from, tt) in
      record {
        stored = appended_stored lawful equal built last was.stored form before;
        upto =
            appended_upto n built j
            (every_weaker _ _ built (λ x le. le_trans lawful _ _ _ le later) was.upto) upto;
        bound = λ k key b.
            let one = appended_binds lawful equal built last was.stored form before k key b in
            let more = alike_more order same built given last was.bound k key b in
            (λ h. more.0 (one.0 h), λ h. one.1 (more.1 h));
      }

module _ {K : Type 0} {order : KeyOrder K} (lawful : IsLawful order) {V : Type 0} where
  -- a key before a place is bound by none of what rises from there
  pub none_before : (k : K) → order.is_key k → (m : Position K) (xs : List (Item (AnyRange K) V))
      → RisesFrom order m xs → Lt (position_cmp order.cmp) (Beside k At) m → ¬ IsBound order xs k
  none_before k key m [] rises before bound = bound
  none_before k key m (x ∷ xs) rises before (inl held) =
      let at = (held_between order lawful x.key k rises.0 key).0 held in
      lt_not_le lawful _ _ before (le_trans lawful _ _ _ rises.2 at.0)
  none_before k key m (x ∷ xs) rises before (inr later) =
      let good = lt_le lawful _ _ ((nonempty_good order lawful x.key rises.0).0 rises.1) in
      none_before k key (item_upper order x) xs rises.3
      (lt_le_trans lawful (Beside k At) m (item_upper order x) before
      (le_trans lawful _ _ _ rises.2 good)) later

  -- a key of the first of what rises is bound by no other
  pub first_alone : (k : K) → order.is_key k → (m : Position K) (x : Item (AnyRange K) V)
      (xs : List (Item (AnyRange K) V)) → RisesFrom order m (x ∷ xs) → Holds order x.key k
      → ¬ IsBound order xs k
  first_alone k key m x xs rises held = grind (arith, common_steps, none_before, held_between)
