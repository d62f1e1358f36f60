-- What the ranges of two lists share, taken by their ends: what is made of those so far, and what
-- is left.
use Rattle.std.proofs.Common.{◌≡◌, refl, ◌↔◌, ◌⊎◌, inl, inr, true, false, List, [], ◌∷◌, Option, Some, None, arith}
use Rattle.std.specs.declared.cmp.Ordering.{Ordering}
use Rattle.std.specs.declared.ops.Bound.{Bound}
use Rattle.std.specs.List.{AllByRecursion as Every}
use Rattle.std.specs.Option.{option_zip}
use Rattle.range_keys.specs.Order.{KeyOrder, IsLawful}
use Rattle.range_keys.specs.Position.{position_cmp}
use Rattle.range_keys.specs.declared.inner.position.Position.{Position}
use Rattle.range_keys.specs.declared.inner.position.Position.TheVariants.{Beside}
use Rattle.range_keys.specs.declared.inner.position.Side.TheVariants.{At}
use Rattle.range_algebra.specs.Clones.{IsBoundClone, SameBound}
use Rattle.range_algebra.specs.Cuts.{lower, upper}
use Rattle.range_algebra.specs.Intervals.{Le, Lt}
use Rattle.range_algebra.specs.Range.{Holds, IsEmptyRange, IsKeyRange}
use Rattle.range_algebra.specs.declared.any.AnyRange.{AnyRange}
use Rattle.range_algebra.proofs.Holding.{empty_is_keyless}
use Rattle.range_algebra.proofs.Lists.{every_weaker}
use Rattle.range_algebra.proofs.Positions.{held_between}
use Rattle.range_store.specs.declared.storage.Item.{Item}
use Rattle.range_runs.specs.Chains.{Follows, line_of}
use Rattle.range_runs.specs.Stored.{item_lower, item_upper}
use Rattle.range_runs.proofs.Extents.{past_le}
use Rattle.range_runs.proofs.Forms.{Known, Chained, chain_stored, nonempty_good, stored_chain, stored_known}
use Rattle.range_runs.proofs.PlaceOrder.{le_refl, lt_le, le_trans, lt_le_trans, le_lt_trans, lt_not_le, not_le}
use Rattle.range_reads.specs.FreeRanges.{item_ranges}
use Rattle.range_merge.specs.Merged.{IsPlaced}
use Rattle.range_set_extend.specs.KeySets.{HoldsKey, IsStoredSet, SomeHolds}
use Rattle.range_sets.specs.Sharing.{StartPast, LieApart, IsCommon, IsPushedUnlessEmpty}
use Rattle.range_sets.specs.TwoSets.{HoldsBoth}
use Rattle.range_sets.specs.Uniting.{IsPushed}
use Rattle.range_sets.proofs.Uniting.{ArePushed, StandBefore, are_pushed, one_class, one_value, ranges_hold}

-- two values make a pair where both are there, and none where one is missing
pub zipped : {A B : Type 0} (left : Option A) (right : Option B) (a : A) (b : B)
    → Some (a, b) ≡ option_zip left right → (left ≡ Some a) × (right ≡ Some b)
zipped None right a b e = absurd (cc)
zipped (Some x) None a b e = absurd (cc)
zipped (Some x) (Some y) a b e = grind arith

pub one_is_missing : {A B : Type 0} (left : Option A) (right : Option B)
    → None ≡ option_zip left right → (left ≡ None) ⊎ (right ≡ None)
one_is_missing None right e = inl refl
one_is_missing (Some x) None e = inr refl
one_is_missing (Some x) (Some y) e = absurd (cc)

module _ {K : Type 0} (order : KeyOrder K) where
  abbrev cmp : Position K → Position K → Ordering
  cmp = position_cmp order.cmp

  abbrev Items : Type 0
  Items = List (Item (AnyRange K) (Unit {0}))

  -- each item ends before the ranges with a position between
  abbrev pub EndBefore : Items → List (AnyRange K) → Type 0
  EndBefore items ranges = Every (λ i. StartPast order (item_upper order i) ranges) items

module _ {K : Type 0} {order : KeyOrder K} (lawful : IsLawful order) where
  pub past_sooner : (m n : Position K) (rs : List (AnyRange K)) → Le (cmp order) m n
      → StartPast order n rs → StartPast order m rs
  past_sooner m n [] le past = tt
  past_sooner m n (r ∷ rs) le past = le_lt_trans lawful m n (lower order r) le past

  -- a key of the ranges lies past each position that they start past
  pub held_past : (m : Position K) (rs : List (AnyRange K)) (k : K) → order.is_key k
      → StartPast order m rs → LieApart order rs → SomeHolds order rs k
      → Lt (cmp order) m (Beside k At)
  held_past m [] k key past apart h = absurd h
  held_past m (r ∷ rs) k key past apart (inl h) =
      lt_le_trans lawful m (lower order r) (Beside k At) past
      ((held_between order lawful r k apart.0.known key).0 h).0
  held_past m (r ∷ rs) k key past apart (inr h) =
      held_past m rs k key
      (past_sooner m (upper order r) rs (le_trans lawful m (lower order r) (upper order r)
      (lt_le lawful _ _ past) (lt_le lawful _ _ apart.0.good)) apart.1.0) apart.1.1 h

  follows_apart : (x : Item (AnyRange K) (Unit {0})) (xs : Items order)
      → Known order lawful one_value one_class xs
      → Follows (line_of order lawful one_value one_class) x xs
      → StartPast order (item_upper order x) (item_ranges xs) × LieApart order (item_ranges xs)
  follows_apart x [] known follows = (tt, tt)
  follows_apart x (y ∷ ys) known follows =
      let rest = follows_apart y ys known.1 follows.1.1 in (
        not_le lawful (item_upper order x) (item_lower order y) (λ back. follows.0.1 back refl),
        (record { known = known.0; good = follows.1.0 }, rest),
      )

  chain_apart : (xs : Items order) → Known order lawful one_value one_class xs
      → Chained order lawful one_value one_class xs → LieApart order (item_ranges xs)
  chain_apart [] known chain = tt
  chain_apart (x ∷ xs) known chain =
      (record { known = known.0; good = chain.0 }, follows_apart x xs known.1 chain.1)

  -- the ranges of a set lie apart
  pub set_apart : (xs : Items order) → IsStoredSet order xs → LieApart order (item_ranges xs)
  set_apart xs stored =
      chain_apart xs (stored_known order lawful one_value one_class xs stored)
      (stored_chain order lawful one_value one_class xs stored)

  -- where the range lies that two ranges share, of which the first ends no later
  record LiesInBoth (r s common : AnyRange K) : Type 0 where
    known : IsKeyRange order common
    above_first : Le (cmp order) (lower order r) (lower order common)
    above_second : Le (cmp order) (lower order s) (lower order common)
    from : Le (cmp order) (lower order common) (lower order r)
        ⊎ Le (cmp order) (lower order common) (lower order s)
    below : Le (cmp order) (upper order common) (upper order r)
    upto : Le (cmp order) (upper order r) (upper order common)
    shorter : Le (cmp order) (upper order r) (upper order s)

  common_lies : (r s common : AnyRange K) → IsPlaced order r → IsPlaced order s
      → IsCommon order r s common true → LiesInBoth r s common
  common_lies r s common placed other is =
      grind (arith, le_refl, past_le order lawful r.end s.end placed.known.1 other.known.1)

  -- two ranges, of which the first ends no later, and what they share
  module _ (r s common : AnyRange K) (placed : IsPlaced order r) (other : IsPlaced order s)
      (lies : LiesInBoth r s common) where
    common_holds : (k : K) → order.is_key k
        → Holds order common k ↔ (Holds order r k × Holds order s k)
    common_holds k key =
        let first = held_between order lawful r k placed.known key in
        let second = held_between order lawful s k other.known key in
        let shared = held_between order lawful common k lies.known key in (
          λ h.
              let within = shared.0 h in
              let ends = lt_le_trans lawful (Beside k At) _ _ within.1 lies.below in (
                first.1 (le_trans lawful _ _ _ lies.above_first within.0, ends),
                second.1 (
                  le_trans lawful _ _ _ lies.above_second within.0,
                  lt_le_trans lawful (Beside k At) _ _ ends lies.shorter,
                ),
              ),
          λ h. shared.1 (
            elim lies.from [
              | inl le ↦ le_trans lawful _ _ _ le (first.0 h.0).0
              | inr le ↦ le_trans lawful _ _ _ le (second.0 h.1).0
            ],
            lt_le_trans lawful (Beside k At) _ _ (first.0 h.0).1 lies.upto,
          ),
        )

    common_placed : (¬ IsEmptyRange order common) → IsPlaced order common
    common_placed full =
        record {
          known = lies.known;
          good = (nonempty_good order lawful common lies.known).0 full;
        }

    -- where that is empty the two share no key
    none_shared : IsEmptyRange order common → (k : K) → order.is_key k → ¬ Holds order common k
    none_shared empty = empty_is_keyless order lawful common empty

  module _ (items others : List (AnyRange K)) where
    -- those that stand, and what is left on both sides hold together what both lists hold
    pub record IsSharedUpTo (left right : List (AnyRange K)) (built : Items order) : Type 0 where
      pub known : Known order lawful one_value one_class built
      pub chain : Chained order lawful one_value one_class built
      pub left_apart : LieApart order left
      pub right_apart : LieApart order right
      pub before : EndBefore order built left ⊎ EndBefore order built right
      pub held : (k : K) → order.is_key k
          → (HoldsKey order built k ⊎ (SomeHolds order left k × SomeHolds order right k))
          ↔ (SomeHolds order items k × SomeHolds order others k)

    -- at first none stands
    pub shared_none : LieApart order items → LieApart order others
        → IsSharedUpTo items others []
    shared_none apart others_apart =
        record {
          known = tt;
          chain = tt;
          left_apart = apart;
          right_apart = others_apart;
          before = inl tt;
          held = λ k key. grind arith;
        }

    -- in the end nothing is left on one side
    pub shared_all : (left right : List (AnyRange K)) (built : Items order)
        → (left ≡ []) ⊎ (right ≡ []) → IsSharedUpTo left right built
        → ((k : K) → order.is_key k → HoldsKey order built k
        ↔ (SomeHolds order items k × SomeHolds order others k)) × IsStoredSet order built
    shared_all left right built none was = (
      λ k key. grind (arith, was.held k key),
      chain_stored order lawful one_value one_class built was.known was.chain,
    )

    module _ {r s : AnyRange K} {left right : List (AnyRange K)} {built : Items order}
        (was : IsSharedUpTo (r ∷ left) (s ∷ right) built) (common : AnyRange K)
        (lies : LiesInBoth r s common) where
      -- no key of the first range is among those after the second
      none_later : (k : K) → order.is_key k → Holds order r k → ¬ SomeHolds order right k
      none_later k key h later =
          lt_not_le lawful (upper order s) (Beside k At)
          (held_past (upper order s) right k key was.right_apart.1.0 was.right_apart.1.1 later)
          (le_trans lawful (Beside k At) (upper order r) (upper order s)
          (lt_le lawful (Beside k At) (upper order r)
          ((held_between order lawful r k was.left_apart.0.known key).0 h).1) lies.shorter)

      stand : StandBefore lawful built common
      stand =
          record {
            known = was.known;
            chain = was.chain;
            before =
                elim was.before [
                  | inl h ↦
                      every_weaker _ _ built
                      (λ i lt. lt_le_trans lawful (item_upper order i) (lower order r)
                      (lower order common) lt lies.above_first) h
                  | inr h ↦
                      every_weaker _ _ built
                      (λ i lt. lt_le_trans lawful (item_upper order i) (lower order s)
                      (lower order common) lt lies.above_second) h
                ];
          }

      -- a range that both share stands after the others
      share_put : (is_clone : K → K → Type 0)
          → ((a b : Bound K) → IsBoundClone is_clone a b → SameBound order a b)
          → (new : Items order) → IsPlaced order common
          → IsPushed order is_clone built new common → IsSharedUpTo left (s ∷ right) new
      share_put is_clone clones new placed pushed =
          let now : ArePushed lawful is_clone clones built new common =
          are_pushed lawful is_clone clones built new common placed stand pushed in
          record {
            known = now.known;
            chain = now.chain;
            left_apart = was.left_apart.1.1;
            right_apart = was.right_apart;
            before =
                inl (every_weaker _ _ new
                (λ i le. past_sooner (item_upper order i) (upper order r) left
                (le_trans lawful _ _ _ le lies.below) was.left_apart.1.0) now.upto);
            held = λ k key.
                let alike =
                common_holds r s common was.left_apart.0 was.right_apart.0 lies k key in
                let none = none_later k key in
                grind (arith, was.held k key, now.holds k key, alike, none);
          }

      -- the first range shares nothing with the second
      share_skip : IsEmptyRange order common → IsSharedUpTo left (s ∷ right) built
      share_skip empty =
          record {
            known = was.known;
            chain = was.chain;
            left_apart = was.left_apart.1.1;
            right_apart = was.right_apart;
            before =
                elim was.before [
                  | inl h ↦
                      inl (every_weaker _ _ built
                      (λ i lt. past_sooner (item_upper order i) (upper order r) left
                      (le_trans lawful _ (lower order r) _ (lt_le lawful _ _ lt)
                      (lt_le lawful _ _ was.left_apart.0.good)) was.left_apart.1.0) h)
                  | inr h ↦ inr h
                ];
            held = λ k key.
                let alike =
                common_holds r s common was.left_apart.0 was.right_apart.0 lies k key in
                let none = none_later k key in
                let nowhere =
                none_shared r s common was.left_apart.0 was.right_apart.0 lies empty k key in
                grind (arith, was.held k key, alike, none, nowhere);
          }

      share_left : (is_clone : K → K → Type 0)
          → ((a b : Bound K) → IsBoundClone is_clone a b → SameBound order a b)
          → (new : Items order) → IsPushedUnlessEmpty order is_clone built new common
          → IsSharedUpTo left (s ∷ right) new
      share_left is_clone clones new (inl put) =
          share_put is_clone clones new
          (common_placed r s common was.left_apart.0 was.right_apart.0 lies put.0) put.1
      share_left is_clone clones new (inr skip) = rw skip.1 (share_skip skip.0)

  -- the same with the two lists exchanged
  turned : (items others : List (AnyRange K)) {left right : List (AnyRange K)} {built : Items order}
      → IsSharedUpTo items others left right built → IsSharedUpTo others items right left built
  turned items others was = grind arith

  common_turned : (r s common : AnyRange K) → IsCommon order r s common false
      → IsCommon order s r common true
  common_turned r s common is = grind arith

  module _ (items others : List (AnyRange K)) (is_clone : K → K → Type 0)
      (clones : (a b : Bound K) → IsBoundClone is_clone a b → SameBound order a b)
      {r s : AnyRange K} {left right : List (AnyRange K)} {built : Items order}
      (was : IsSharedUpTo items others (r ∷ left) (s ∷ right) built) (common : AnyRange K)
      (new : Items order) (put : IsPushedUnlessEmpty order is_clone built new common) where
    -- the first range on the left is used up
    pub shared_left : IsCommon order r s common true
        → IsSharedUpTo items others left (s ∷ right) new
    shared_left is =
        share_left items others was common
        (common_lies r s common was.left_apart.0 was.right_apart.0 is) is_clone clones new put

    -- the first range on the right is used up
    pub shared_right : IsCommon order r s common false
        → IsSharedUpTo items others (r ∷ left) right new
    shared_right is =
        turned others items (share_left others items (turned items others was) common
        (common_lies s r common was.right_apart.0 was.left_apart.0 (common_turned r s common is))
        is_clone clones new put)

  -- in the end just the keys of both lists are held
  pub shared_both : (items others : Items order) (left right : List (AnyRange K))
      (built : Items order) → (left ≡ []) ⊎ (right ≡ [])
      → IsSharedUpTo (item_ranges items) (item_ranges others) left right built
      → HoldsBoth order items others built × IsStoredSet order built
  shared_both items others left right built none was =
      let all = shared_all (item_ranges items) (item_ranges others) left right built none was in (
        λ k key. grind (arith, all.0 k key, ranges_hold order items k, ranges_hold order others k),
        all.1,
      )
