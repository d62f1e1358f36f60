-- The ranges of two lists, taken by their starts: what is made of those so far, and what is left.
use Rattle.std.proofs.Common.{◌≡◌, refl, sym, ◌∙◌, subst, ◌↔◌, ◌⊎◌, inl, inr, Bool, true, false, Option, Some, None, List, [], ◌∷◌, ◌++◌, arith}
use Rattle.std.specs.Prelude.{MatchOption}
use Rattle.std.specs.Cmp.{IsEquivalence}
use Rattle.std.specs.Option.{option_copied}
use Rattle.std.specs.declared.ops.Bound.{Bound}
use Rattle.std.specs.declared.ops.Bound.TheVariants.{Unbounded}
use Rattle.std.specs.declared.cmp.Ordering.{Ordering}
use Rattle.std.specs.declared.cmp.Ordering.TheVariants.{Equal}
use denote.Ref.{Bor}
use Rattle.std.specs.List.{AllByRecursion as Every}
use Rattle.range_keys.specs.Order.{KeyOrder, IsLawful}
use Rattle.range_keys.specs.Position.{start_position, end_position, position_cmp}
use Rattle.range_keys.specs.declared.inner.position.Position.{Position}
use Rattle.range_keys.specs.declared.inner.position.Position.TheVariants.{Beside}
use Rattle.range_keys.specs.declared.inner.position.Side.TheVariants.{At}
use Rattle.range_algebra.specs.Clones.{IsBoundClone, IsRangeClone, SameBound}
use Rattle.range_algebra.specs.Compared.{flipped}
use Rattle.range_algebra.specs.Cuts.{lower, past, upper}
use Rattle.range_algebra.specs.Intervals.{Le, Lt}
use Rattle.range_algebra.specs.Range.{Holds, IsBoundOfKey, IsKeyRange, with_bounds}
use Rattle.range_algebra.specs.declared.any.AnyRange.{AnyRange}
use Rattle.range_algebra.proofs.Lists.{every_append, every_weaker}
use Rattle.range_algebra.proofs.Positions.{flipped_bound_is_past, held_between, unbounded_start, unbounded_end}
use Rattle.range_store.specs.declared.storage.Item.{Item}
use Rattle.range_runs.specs.Bindings.{IsBound}
use Rattle.range_runs.specs.Chains.{Follows, line_of}
use Rattle.range_runs.specs.Stored.{item_lower, item_upper}
use Rattle.range_runs.specs.Window.{option_items}
use Rattle.range_runs.proofs.Chains.{chains_join, strictly_leads}
use Rattle.range_runs.proofs.Extents.{past_le}
use Rattle.range_runs.proofs.Forms.{Known, Chained, chain_stored, stored_chain, stored_known}
use Rattle.range_reads.specs.FreeRanges.{full_range, item_ranges}
use Rattle.range_merge.specs.Merged.{IsPlaced}
use Rattle.range_merge.proofs.FirstPieces.{past_same}
use Rattle.range_runs.proofs.PlaceOrder.{le_refl, lt_le, eq_le, eq_ge, le_trans, lt_le_trans, le_lt_trans, not_le, cases}
use Rattle.range_set_extend.specs.KeySets.{HoldsKey, IsStoredSet, SomeHolds}
use Rattle.range_sets.specs.TwoSets.{HoldsEither}
use Rattle.range_sets.specs.Uniting.{StartsFirst, IsFirstOf, Reaches, IsLaterEnd, IsPushed, IsAdded}

-- the ranges that are left where an iterator has given one that is not yet taken
abbrev pub ahead : {K : Type 0} → Option (Bor (AnyRange K)) → List (AnyRange K) → List (AnyRange K)
ahead next rest = option_items (option_copied next) ++ rest

-- what an iterator gives next and what it has left then
abbrev Gives : {K : Type 0} → List (AnyRange K) → Option (Bor (AnyRange K)) → List (AnyRange K)
    → Type 0
Gives before next after =
    MatchOption next ((before ≡ []) × (after ≡ [])) (λ r. before ≡ r.now ∷ after)

pub stepped : {K : Type 0} (before after : List (AnyRange K)) (next : Option (Bor (AnyRange K)))
    → Gives before next after → ahead next after ≡ before
stepped before after None steps = steps.1 ∙ sym steps.0
stepped before after (Some r) steps = sym steps

pub drained : {K : Type 0} (before after : List (AnyRange K)) (next : Option (Bor (AnyRange K)))
    → Gives before next after → option_copied next ≡ None → after ≡ []
drained before after None steps e = steps.1
drained before after (Some r) steps e = absurd (cc)

pub nothing_ahead : {K : Type 0} (next : Option (Bor (AnyRange K))) (rest : List (AnyRange K))
    → next ≡ None → (option_copied next ≡ None → rest ≡ []) → ahead next rest ≡ []
nothing_ahead None rest e none = none refl
nothing_ahead (Some r) rest e none = absurd (cc)

abbrev pub one_value : Unit {0} → Unit {0} → Bool
one_value _ _ = true

pub one_class : IsEquivalence one_value
one_class = record { refl = λ x. refl; symm = λ x y. refl; congr = λ x y z e. refl }

bound_end : {K : Type 0} (order : KeyOrder K) (xs : List (Item (AnyRange K) (Unit {0})))
    (x : Item (AnyRange K) (Unit {0})) (k : K)
    → IsBound order (xs ++ x ∷ []) k ↔ (IsBound order xs k ⊎ Holds order x.key k)
bound_end order [] x k = grind arith
bound_end order (y ∷ ys) x k = grind (arith, bound_end order ys x k)

pub ranges_hold : {K : Type 0} (order : KeyOrder K) (xs : List (Item (AnyRange K) (Unit {0}))) (k : K)
    → HoldsKey order xs k ↔ SomeHolds order (item_ranges xs) k
ranges_hold order [] k = (λ h. h, λ h. h)
ranges_hold order (x ∷ xs) k = grind (arith, ranges_hold order xs k)

module _ {K : Type 0} (order : KeyOrder K) where
  abbrev cmp : Position K → Position K → Ordering
  cmp = position_cmp order.cmp

  abbrev Items : Type 0
  Items = List (Item (AnyRange K) (Unit {0}))

  -- nonempty ranges of keys from a place on, each from where the one before ends at least
  abbrev pub RisesFrom : Position K → List (AnyRange K) → Type 0
  RisesFrom m [] = Unit {0}
  RisesFrom m (r ∷ rest) =
      IsPlaced order r × Le cmp m (lower order r) × RisesFrom (upper order r) rest

  -- the key is held by those that stand, by the last range or by what is left
  abbrev IsHeld : List (AnyRange K) → List (AnyRange K) → Items → AnyRange K → K → Type 0
  IsHeld left right built last k =
      HoldsKey order built k
      ⊎ (Holds order last k ⊎ (SomeHolds order left k ⊎ SomeHolds order right k))

module _ {K : Type 0} {order : KeyOrder K} (lawful : IsLawful order) where
  -- a range reaches an end where it does not start after the start just past that
  pub reaches_turned : (e i : Bound K) (r : AnyRange K) → flipped e ≡ Some i
      → Le (cmp order) (lower order r) (start_position order i) ↔ Reaches order e r
  reaches_turned e i r turns = grind (arith, eq_ge, eq_le, flipped_bound_is_past, le_trans)

  -- each range reaches an end without a bound
  pub all_reach : (e : Bound K) (r : AnyRange K) → IsPlaced order r → flipped e ≡ None
      → Reaches order e r
  all_reach Unbounded r placed none = grind (arith, le_trans, lt_le, unbounded_end)
  all_reach e r placed none = absurd (cc)

  -- where a range does not reach the last one
  pub apart_from : (last r : AnyRange K) → (¬ Reaches order last.end r)
      → Lt (cmp order) (upper order last) (lower order r)
  apart_from last r none = not_le lawful _ _ none

  rises_sooner : (m n : Position K) (rs : List (AnyRange K)) → Le (cmp order) m n
      → RisesFrom order n rs → RisesFrom order m rs
  rises_sooner m n [] le rises = tt
  rises_sooner m n (r ∷ rs) le rises = (rises.0, le_trans lawful _ _ _ le rises.1, rises.2)

  -- what does not start before a range rises from its start
  rises_later : (m : Position K) (r : AnyRange K) (next : Option (AnyRange K))
      (rest : List (AnyRange K)) → (next ≡ None → rest ≡ [])
      → RisesFrom order m (option_items next ++ rest) → StartsFirst order r next
      → RisesFrom order (lower order r) (option_items next ++ rest)
  rises_later m r None rest none rises first = rw (none refl) tt
  rises_later m r (Some s) rest none rises first = (rises.0, first, rises.2)

  follows_rise : (x : Item (AnyRange K) (Unit {0})) (xs : Items order)
      → Known order lawful one_value one_class xs
      → Follows (line_of order lawful one_value one_class) x xs
      → RisesFrom order (item_upper order x) (item_ranges xs)
  follows_rise x [] known follows = tt
  follows_rise x (y ∷ ys) known follows = grind (arith, follows_rise y ys known.1 follows.1.1)

  chain_rises : (xs : Items order) → Known order lawful one_value one_class xs
      → Chained order lawful one_value one_class xs
      → RisesFrom order (lower order full_range) (item_ranges xs)
  chain_rises [] known chain = tt
  chain_rises (x ∷ xs) known chain = grind (arith, follows_rise, unbounded_start)

  set_rises : (xs : Items order) → IsStoredSet order xs
      → RisesFrom order (lower order full_range) (item_ranges xs)
  set_rises xs stored =
      chain_rises xs (stored_known order lawful one_value one_class xs stored)
      (stored_chain order lawful one_value one_class xs stored)

  -- ranges in stored form, all of which end before the last one without touching it
  pub record StandBefore (built : Items order) (last : AnyRange K) : Type 0 where
    pub known : Known order lawful one_value one_class built
    pub chain : Chained order lawful one_value one_class built
    pub before : Every (λ i. Lt (cmp order) (item_upper order i) (lower order last)) built

  -- where the later of two ends lies
  later_known : (last r : AnyRange K) (e : Bound K) → IsKeyRange order last
      → IsKeyRange order r → IsLaterEnd order last.end r.end e
      → IsBoundOfKey order e × Le (cmp order) (upper order last) (past order (end_position order e))
      × Le (cmp order) (upper order r) (past order (end_position order e))
  later_known last r e known others (inl h) = grind (arith, le_refl, past_le)
  later_known last r e known others (inr h) = grind (arith, le_refl, past_le)

  -- two ranges of which the second starts in the first or just past it
  module _ (last r : AnyRange K) (placed : IsPlaced order last) (other : IsPlaced order r)
      (from : Le (cmp order) (lower order last) (lower order r))
      (reaches : Reaches order last.end r) where
    below_end : (e : Bound K) (k : K) → order.is_key k → IsLaterEnd order last.end r.end e
        → Le (cmp order) (lower order last) (Beside k At)
        → Lt (cmp order) (Beside k At) (past order (end_position order e))
        → Le (cmp order) (lower order r) (Beside k At)
        → Holds order last k ⊎ Holds order r k
    below_end e k key (inl h) above below start =
        inl ((held_between order lawful last k placed.known key).1 (above, rw h.0 at below))
    below_end e k key (inr h) above below start =
        inr ((held_between order lawful r k other.known key).1 (start, rw h.0 at below))

    joined_holds : (e : Bound K) (k : K) → order.is_key k → IsLaterEnd order last.end r.end e
        → Holds order (with_bounds last.start e) k ↔ (Holds order last k ⊎ Holds order r k)
    joined_holds e k key later =
        let ends = later_known last r e placed.known other.known later in
        let first = held_between order lawful last k placed.known key in
        let second = held_between order lawful r k other.known key in
        let joined = held_between order lawful (with_bounds last.start e) k
        (placed.known.0, ends.0) key in (
          λ h. elim (cases lawful (Beside k At) (lower order r)) [
            | inl before ↦
                inl (first.1 ((joined.0 h).0, lt_le_trans lawful (Beside k At) _ _ before reaches))
            | inr start ↦ below_end e k key later (joined.0 h).0 (joined.0 h).1 start
          ],
          λ h. joined.1 (elim h [
            | inl it ↦
                ((first.0 it).0, lt_le_trans lawful (Beside k At) _ _ (first.0 it).1 ends.1)
            | inr it ↦ (
              le_trans lawful _ _ _ from (second.0 it).0,
              lt_le_trans lawful (Beside k At) _ _ (second.0 it).1 ends.2,
            )
          ]),
        )

    joined_placed : (e : Bound K) → IsLaterEnd order last.end r.end e
        → IsPlaced order (with_bounds last.start e)
    joined_placed e later = grind (arith, later_known, lt_le_trans)

  module _ (is_clone : K → K → Type 0)
      (clones : (a b : Bound K) → IsBoundClone is_clone a b → SameBound order a b) where
    -- a clone of a range lies where that does
    copy_lies : (r copy : AnyRange K) → IsKeyRange order r → IsKeyRange order copy
        → IsRangeClone is_clone r copy
        → (cmp order (lower order r) (lower order copy) ≡ Equal)
        × (cmp order (upper order r) (upper order copy) ≡ Equal)
    copy_lies r copy known others clone = grind (arith, past_same)

    copy_holds : (r copy : AnyRange K) (k : K) → order.is_key k → IsKeyRange order r
        → IsKeyRange order copy → IsRangeClone is_clone r copy
        → Holds order copy k ↔ Holds order r k
    copy_holds r copy k key known others clone =
        let lies = copy_lies r copy known others clone in
        let first = held_between order lawful r k known key in
        let second = held_between order lawful copy k others key in (
          λ h. grind (arith, eq_ge, eq_le, le_trans, lt_le_trans),
          λ h. grind (arith, eq_ge, eq_le, le_trans, lt_le_trans),
        )

    -- those that stand before the last range, and it after them
    pub record ArePushed (built new : Items order) (last : AnyRange K) : Type 0 where
      pub known : Known order lawful one_value one_class new
      pub chain : Chained order lawful one_value one_class new
      pub upto : Every (λ i. Le (cmp order) (item_upper order i) (upper order last)) new
      pub holds : (k : K) → order.is_key k
          → HoldsKey order new k ↔ (HoldsKey order built k ⊎ Holds order last k)

    push_copy : (built : Items order) (last copy : AnyRange K) → IsPlaced order last
        → StandBefore built last → IsKeyRange order copy → IsRangeClone is_clone last copy
        → ArePushed built (built ++ record { key = copy; value = tt } ∷ []) last
    push_copy built last copy placed stand copied clone =
        let line = line_of order lawful one_value one_class in
        let i : Item (AnyRange K) (Unit {0}) = record { key = copy; value = tt } in
        let lies = copy_lies last copy placed.known copied clone in
        let good =
        le_lt_trans lawful _ _ _ (eq_ge lawful _ _ lies.0)
        (lt_le_trans lawful _ _ _ placed.good (eq_le lawful _ _ lies.1)) in
        record {
          known = every_append _ built (i ∷ []) stand.known (copied, tt);
          chain =
              chains_join line built i [] stand.chain (good, tt)
              (every_weaker _ _ built (λ x lt. strictly_leads line x (item_lower order i) tt
              (lt_le_trans lawful _ _ _ lt (eq_le lawful _ _ lies.0))) stand.before);
          upto =
              every_append _ built (i ∷ [])
              (every_weaker _ _ built (λ x lt. le_trans lawful _ _ _ (lt_le lawful _ _ lt)
              (lt_le lawful _ _ placed.good)) stand.before) (eq_ge lawful _ _ lies.1, tt);
          holds = λ k key. grind (arith, bound_end order built i k, copy_holds last copy k key);
        }

    pub are_pushed : (built new : Items order) (last : AnyRange K) → IsPlaced order last
        → StandBefore built last → IsPushed order is_clone built new last
        → ArePushed built new last
    are_pushed built new last placed stand pushed =
        rw pushed.list
        (push_copy built last pushed.copy placed stand pushed.known pushed.clone)

  module _ (items others : Items order) where
    -- the ranges that stand, the last one, which may go on, and what is left from its start on hold
    -- together just what the two lists hold
    pub record IsUnitedUpTo (left right : List (AnyRange K)) (built : Items order)
        (last : AnyRange K) : Type 0 where
      pub placed : IsPlaced order last
      pub stand : StandBefore built last
      pub left_rises : RisesFrom order (lower order last) left
      pub right_rises : RisesFrom order (lower order last) right
      pub held : (k : K) → order.is_key k → IsHeld order left right built last k
          ↔ (HoldsKey order items k ⊎ HoldsKey order others k)

    -- at first no range stands, and the last one is the first on the left, which is not yet taken
    first_left : (r : AnyRange K) (rest : List (AnyRange K)) (near : Option (AnyRange K))
        (others_rest : List (AnyRange K)) → (near ≡ None → others_rest ≡ [])
        → IsStoredSet order items → IsStoredSet order others → r ∷ rest ≡ item_ranges items
        → option_items near ++ others_rest ≡ item_ranges others → StartsFirst order r near
        → IsUnitedUpTo (r ∷ rest) (option_items near ++ others_rest) [] r
    first_left r rest near others_rest none stored stored_others left right first =
        let m = lower order full_range in
        let rises : RisesFrom order m (r ∷ rest) =
        subst (RisesFrom order m) (sym left) (set_rises items stored) in
        let others_rise : RisesFrom order m (option_items near ++ others_rest) =
        rw right (set_rises others stored_others) in
        grind (arith, le_refl, ranges_hold, rises_later)

    module _ {r : AnyRange K} {rest : List (AnyRange K)} {near : Option (AnyRange K)}
        {others_rest : List (AnyRange K)} {built : Items order} {last : AnyRange K}
        (was : IsUnitedUpTo (r ∷ rest) (option_items near ++ others_rest) built last)
        (none : near ≡ None → others_rest ≡ []) (first : StartsFirst order r near) where
      join_left : (e : Bound K) → IsLaterEnd order last.end r.end e → Reaches order last.end r
          → IsUnitedUpTo rest (option_items near ++ others_rest) built (with_bounds last.start e)
      join_left e later reaches =
          grind (arith, joined_holds, joined_placed, le_trans, lt_le, rises_sooner)

      module _ (is_clone : K → K → Type 0)
          (clones : (a b : Bound K) → IsBoundClone is_clone a b → SameBound order a b) where
        push_left : (new : Items order) → Lt (cmp order) (upper order last) (lower order r)
            → IsPushed order is_clone built new last
            → IsUnitedUpTo rest (option_items near ++ others_rest) new r
        push_left new apart pushed =
            let now = are_pushed is_clone clones built new last was.placed was.stand pushed in
            grind (arith, every_weaker, le_lt_trans, lt_le, rises_later, rises_sooner)

        -- the first range on the left is taken
        add_left : (new : Items order) (next : AnyRange K)
            → IsAdded order is_clone built new last r next
            → IsUnitedUpTo rest (option_items near ++ others_rest) new next
        add_left new next (inl h) = grind (arith, join_left)
        add_left new next (inr h) = rw h.1 (push_left new h.0 h.2)

    -- the first of what is left is a nonempty range of keys
    pub first_placed : (left right : Option (AnyRange K)) (rest others_rest : List (AnyRange K))
        (r : AnyRange K) (is_left : Bool) (built : Items order) (last : AnyRange K)
        → IsUnitedUpTo (option_items left ++ rest) (option_items right ++ others_rest) built last
        → IsFirstOf order left right r is_left → IsPlaced order r
    first_placed left right rest others_rest r true built last was first = grind arith
    first_placed left right rest others_rest r false built last was first = grind arith

  -- the same with the two lists exchanged
  turned : (items others : Items order) {left right : List (AnyRange K)} {built : Items order}
      {last : AnyRange K} → IsUnitedUpTo items others left right built last
      → IsUnitedUpTo others items right left built last
  turned items others was = grind arith

  module _ (items others : Items order) where
    -- no range is taken yet
    pub united_first : (left right : Option (AnyRange K)) (rest others_rest : List (AnyRange K))
        (r : AnyRange K) (is_left : Bool) → (left ≡ None → rest ≡ [])
        → (right ≡ None → others_rest ≡ []) → IsStoredSet order items → IsStoredSet order others
        → option_items left ++ rest ≡ item_ranges items
        → option_items right ++ others_rest ≡ item_ranges others
        → IsFirstOf order left right r is_left
        → IsUnitedUpTo items others (option_items left ++ rest) (option_items right ++ others_rest)
        [] r
    united_first left right rest others_rest r true none none' stored stored' e f first =
        rw first.0 (first_left items others r rest right others_rest none' stored stored'
        (rw first.0 at e) f first.1)
    united_first left right rest others_rest r false none none' stored stored' e f first =
        rw first.0 (turned others items (first_left others items r others_rest left rest none
        stored' stored (rw first.0 at f) e first.1))

    module _ (is_clone : K → K → Type 0)
        (clones : (a b : Bound K) → IsBoundClone is_clone a b → SameBound order a b) where
      -- the first range is taken from the left
      pub united_left : (left right : Option (AnyRange K)) (rest others_rest : List (AnyRange K))
          (r : AnyRange K) (built new : Items order) (last next : AnyRange K)
          → (right ≡ None → others_rest ≡ [])
          → IsUnitedUpTo items others (option_items left ++ rest)
          (option_items right ++ others_rest) built last
          → IsFirstOf order left right r true → IsAdded order is_clone built new last r next
          → IsUnitedUpTo items others rest (option_items right ++ others_rest) new next
      united_left left right rest others_rest r built new last next none was first added =
          add_left items others (rw first.0 at was) none first.1 is_clone clones new next added

      -- the first range is taken from the right
      pub united_right : (left right : Option (AnyRange K)) (rest others_rest : List (AnyRange K))
          (r : AnyRange K) (built new : Items order) (last next : AnyRange K)
          → (left ≡ None → rest ≡ [])
          → IsUnitedUpTo items others (option_items left ++ rest)
          (option_items right ++ others_rest) built last
          → IsFirstOf order left right r false → IsAdded order is_clone built new last r next
          → IsUnitedUpTo items others (option_items left ++ rest) others_rest new next
      united_right left right rest others_rest r built new last next none was first added =
          turned others items (add_left others items (turned items others (rw first.0 at was)) none
          first.1 is_clone clones new next added)

      end_all : (built new : Items order) (last : AnyRange K)
          → IsUnitedUpTo items others [] [] built last → IsPushed order is_clone built new last
          → HoldsEither order items others new × IsStoredSet order new
      end_all built new last was pushed =
          let now = are_pushed is_clone clones built new last was.placed was.stand pushed in (
            λ k key. grind (arith, was.held k key, now.holds k key),
            chain_stored order lawful one_value one_class new now.known now.chain,
          )

      -- nothing is left
      pub united_all : (left right : List (AnyRange K)) (built new : Items order)
          (last : AnyRange K) → left ≡ [] → right ≡ []
          → IsUnitedUpTo items others left right built last
          → IsPushed order is_clone built new last
          → HoldsEither order items others new × IsStoredSet order new
      united_all left right built new last e f was pushed =
          end_all built new last (rw (e, f) at was) pushed

  -- of two empty lists
  pub united_none : (items others : Items order) → [] ≡ item_ranges items → [] ≡ item_ranges others
      → HoldsEither order {X = Unit {0}} items others [] × IsStoredSet order []
  united_none items others e f = grind (arith, ranges_hold)
