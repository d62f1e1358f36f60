-- Lists of the map's form are coarse over complete keys, and equal exactly where they bind every
-- key alike.
use Rattle.range_map.proofs.Common.{arith, common_steps, ◌≡◌, refl, sym, ap, ◌∙◌, List, [], ◌∷◌, length, ◌↔◌, Bool, IsTrue, Some, Ordering, Equal, is_eq, eq_by_cmp, IsEquivalence, IsTotalOrder, Equal-is, alike_right, first_so, second_so, KeyOrder, IsLawful, IsComplete, Holds, IsKeyRange, IsEmptyRange, IsKeyless, AnyRange, Every, and_from, Item, IsBound, BindsTo, BindAlike, IsCoarse, AreAlike, IsOnlyCoarse, IsLeastCount, IsStored, IsCanonical, same_list, list_cmp, lists_tied, lists_order, empty_is_keyless, same_is_equal, equal_is_same, binds_bound, nonempty_holds}
use Rattle.range_algebra.proofs.Meeting.{not_greater}
use Rattle.range_bulk.proofs.BoundKeys.{bound_value, bound_to_equal, bound_by, binds_by}
use Rattle.range_map.proofs.Coarse.{coarse_alike, coarse_shortest}
use Rattle.range_algebra.proofs.Joined.{before_is, ends_below, joined_touch, is_before_of}

module _ {K : Type 0} {order : KeyOrder K} (lawful : IsLawful order) {V : Type 0}
    {same_value : V → V → Bool} where
  pub tail_is_stored : {i : Item (AnyRange K) V} {rest : List (Item (AnyRange K) V)}
      → IsStored order same_value (i ∷ rest) → IsStored order same_value rest
  tail_is_stored stored =
      record { known = stored.known.1; nonempty = stored.nonempty.1; rising = stored.rising.1 }

  has_key : (i : Item (AnyRange K) V) (rest : List (Item (AnyRange K) V))
      → IsStored order same_value (i ∷ rest) → IsComplete order → ¬ IsKeyless order i.key
  has_key i rest stored complete none =
      let found =
      nonempty_holds order lawful complete i.key stored.known.0 (not_greater _ stored.nonempty.0) in
      none found.0 found.1 found.2

  -- over complete keys the map's form is coarse
  pub stored_coarse : (items : List (Item (AnyRange K) V)) → IsStored order same_value items
      → IsComplete order → IsCoarse order same_value items
  stored_coarse [] stored complete = record { keyed = tt; rising = tt; parted = tt }
  stored_coarse (i ∷ []) stored complete =
      record { keyed = (has_key i [] stored complete, tt); rising = (tt, tt); parted = (tt, tt) }
  stored_coarse (i ∷ j ∷ rest) stored complete =
      let before =
      before_is order lawful i.key j.key (same_value i.value j.value) stored.rising.0 in
      let behind = stored_coarse (j ∷ rest) (tail_is_stored stored) complete in
      record {
        keyed = (has_key i (j ∷ rest) stored complete, behind.keyed);
        rising = (ends_below order lawful i.key j.key before.0, behind.rising);
        parted = (
          λ joined same. before.1 same
              (joined_touch order lawful complete i.key j.key stored.known.0 stored.known.1.0
              stored.nonempty.0 stored.nonempty.1.0 joined),
          behind.parted,
        );
      }

module _ {K : Type 0} {order : KeyOrder K} (lawful : IsLawful order) {V : Type 0}
    {same_value : V → V → Bool} (values : IsEquivalence same_value) where
  stored_only : (items : List (Item (AnyRange K) V)) → IsStored order same_value items
      → IsComplete order → IsOnlyCoarse order same_value items
  stored_only items stored complete others =
      coarse_alike lawful values items others (stored_coarse lawful items stored complete)

  stored_least : (items : List (Item (AnyRange K) V)) → IsStored order same_value items
      → IsComplete order → IsLeastCount order same_value items (length items)
  stored_least items stored complete others alike =
      coarse_shortest lawful values items others (stored_coarse lawful items stored complete) alike

  -- the map's form is the one that every call leaves
  pub stored_canonical : (items : List (Item (AnyRange K) V)) → IsStored order same_value items
      → IsCanonical order same_value items
  stored_canonical items stored =
      record {
        stored = stored;
        coarse = stored_coarse lawful items stored;
        only = stored_only items stored;
        least = stored_least items stored;
      }

  alike_equal : IsComplete order → (items others : List (Item (AnyRange K) V))
      → IsStored order same_value items → IsStored order same_value others
      → AreAlike order same_value items others → IsTrue (same_list order same_value items others)
  alike_equal complete [] [] stored stored' alike = refl
  alike_equal complete (i ∷ items) (j ∷ others) stored stored' alike =
      and_from _ _ (and_from _ _
      (ap is_eq (same_is_equal order lawful complete i.key j.key stored.known.0 stored'.known.0
      stored.nonempty.0 stored'.nonempty.0 alike.0.0)) alike.0.1)
      (alike_equal complete items others (tail_is_stored lawful stored)
      (tail_is_stored lawful stored') alike.1)
  alike_equal complete items others stored stored' alike = absurd alike

  equal_alike : (items others : List (Item (AnyRange K) V))
      → IsTrue (same_list order same_value items others) → AreAlike order same_value items others
  equal_alike [] [] e = tt
  equal_alike (i ∷ items) (j ∷ others) e =
      let here = first_so _ _ e in
      let ranges = first_so _ _ here in (
        (equal_is_same order lawful i.key j.key ((Equal-is _).0 ranges), second_so _ _ here),
        equal_alike items others (second_so _ _ e),
      )
  equal_alike items others e = cc

  alike_binds_to : (items others : List (Item (AnyRange K) V))
      → AreAlike order same_value items others → (k : K) → order.is_key k → (v : V)
      → BindsTo order same_value items k v ↔ BindsTo order same_value others k v
  alike_binds_to [] [] alike k key v = (λ h. h, λ h. h)
  alike_binds_to (i ∷ items) (j ∷ others) alike k key v =
      grind (arith, common_steps, values.congr, alike_binds_to items others alike.1 k key v)
  alike_binds_to items others alike k key v = absurd alike

  -- alike lists bind every key alike
  alike_binds : (items others : List (Item (AnyRange K) V))
      → AreAlike order same_value items others → BindAlike order same_value items others
  alike_binds items others alike k key =
      binds_by order same_value values items others k (alike_binds_to items others alike k key)

  -- equal lists bind every key alike
  pub equal_binds : (items others : List (Item (AnyRange K) V))
      → IsTrue (same_list order same_value items others) → BindAlike order same_value items others
  equal_binds items others e = alike_binds items others (equal_alike items others e)

  -- lists of the map's form are equal exactly where they bind every key alike
  pub stored_equal : IsComplete order → (items others : List (Item (AnyRange K) V))
      → IsStored order same_value items → IsStored order same_value others
      → IsTrue (same_list order same_value items others) ↔ BindAlike order same_value items others
  stored_equal complete items others stored stored' =
      grind (arith, common_steps, equal_binds, alike_equal, coarse_alike, stored_coarse)

  module _ (value_cmp : V → V → Ordering) (total : IsTotalOrder value_cmp)
      (tied : (u v : V) → same_value u v ≡ eq_by_cmp value_cmp u v)
      (complete : IsComplete order) where
    -- and then alone the order says Equal
    pub stored_compared : (items others : List (Item (AnyRange K) V))
        → IsStored order same_value items → IsStored order same_value others
        → list_cmp order value_cmp items others ≡ Equal ↔ BindAlike order same_value items others
    stored_compared items others stored stored' =
        let equal = stored_equal complete items others stored stored' in
        let ties = lists_tied order same_value value_cmp tied items others in
        let level = Equal-is _ in
        (λ e. equal.0 (ties ∙ level.1 e), λ alike. level.0 (sym ties ∙ equal.1 alike))

    -- lists compare as those do that bind every key alike
    pub stored_same_order : (items others items' others' : List (Item (AnyRange K) V))
        → IsStored order same_value items → IsStored order same_value others
        → IsStored order same_value items' → IsStored order same_value others'
        → BindAlike order same_value items items' → BindAlike order same_value others others'
        → list_cmp order value_cmp items others ≡ list_cmp order value_cmp items' others'
    stored_same_order items others items' others' left right left' right' alike alike' =
        let lists = lists_order order lawful value_cmp total in
        lists.congr items items' others ((stored_compared items items' left left').1 alike)
        ∙ alike_right lists others others' items'
        ((stored_compared others others' right right').1 alike')

module _ {K : Type 0} (order : KeyOrder K) {V : Type 0} (same_value : V → V → Bool)
    (one : (u v : V) → IsTrue (same_value u v)) where
  all_equal : IsEquivalence same_value
  all_equal = grind (arith, common_steps)

  binds_any : (items : List (Item (AnyRange K) V)) (k : K) (v : V) → IsBound order items k
      → BindsTo order same_value items k v
  binds_any items k v h = grind (arith, common_steps, bound_value, all_equal, bound_to_equal)

  -- where all values are equal, as in a set, lists bind alike where they hold the same keys
  pub same_keys : (items others : List (Item (AnyRange K) V))
      → ((k : K) → order.is_key k → IsBound order items k ↔ IsBound order others k)
      ↔ BindAlike order same_value items others
  same_keys items others = (
    grind (arith, common_steps, binds_by, all_equal, binds_any, binds_bound),
    λ alike k key. (
      bound_by order same_value all_equal items others k (λ v. (alike k key (Some v)).0),
      bound_by order same_value all_equal others items k (λ v. (alike k key (Some v)).1),
    ),
  )

module _ {K : Type 0} {order : KeyOrder K} (lawful : IsLawful order) (complete : IsComplete order)
    {V : Type 0} (same_value : V → V → Bool) where
  keyed_full : (r : AnyRange K) → ¬ IsKeyless order r → ¬ IsEmptyRange order r
  keyed_full r keyed empty = keyed (empty_is_keyless order lawful r empty)

  keyed_range_has_key : (r : AnyRange K) → IsKeyRange order r → ¬ IsKeyless order r
      → (k : K) × order.is_key k × Holds order r k
  keyed_range_has_key r known keyed =
      nonempty_holds order lawful complete r known (not_greater _ (keyed_full r keyed))

  -- over complete keys a coarse list of ranges of keys has the map's form
  pub coarse_stored : (items : List (Item (AnyRange K) V))
      → Every (λ i. IsKeyRange order i.key) items → IsCoarse order same_value items
      → IsStored order same_value items
  coarse_stored [] known coarse = record { known = known; nonempty = tt; rising = tt }
  coarse_stored (i ∷ []) known coarse =
      record { known = known; nonempty = (keyed_full i.key coarse.keyed.0, tt); rising = (tt, tt) }
  coarse_stored (i ∷ j ∷ rest) known coarse =
      let behind =
      coarse_stored (j ∷ rest) known.1 (record {
        keyed = coarse.keyed.1;
        rising = coarse.rising.1;
        parted = coarse.parted.1;
      }) in
      let first = keyed_range_has_key i.key known.0 coarse.keyed.0 in
      let next = keyed_range_has_key j.key known.1.0 coarse.keyed.1.0 in
      record {
        known = known;
        nonempty = (keyed_full i.key coarse.keyed.0, behind.nonempty);
        rising = grind (arith, common_steps, is_before_of);
      }
