-- What the ranges of one list have and those of another have not: what is made of those so far, and
-- what is left.
use Rattle.std.proofs.Common.{◌≡◌, refl, ◌↔◌, ◌⊎◌, inl, inr, List, [], ◌∷◌, Some, arith}
use Rattle.std.specs.declared.cmp.Ordering.{Ordering}
use Rattle.std.specs.declared.ops.Bound.{Bound}
use Rattle.std.specs.List.{AllByRecursion as Every}
use Rattle.range_keys.specs.Order.{KeyOrder, IsLawful}
use Rattle.range_keys.specs.Position.{start_position, end_position, position_cmp}
use Rattle.range_keys.specs.declared.inner.position.Position.{Position}
use Rattle.range_keys.specs.declared.inner.position.Position.TheVariants.{Beside}
use Rattle.range_keys.specs.declared.inner.position.Side.TheVariants.{At}
use Rattle.range_algebra.specs.Clones.{IsBoundClone, SameBound}
use Rattle.range_algebra.specs.Compared.{flipped}
use Rattle.range_algebra.specs.Cuts.{lower, upper}
use Rattle.range_algebra.specs.Intervals.{Le, Lt}
use Rattle.range_algebra.specs.Range.{Holds, with_bounds}
use Rattle.range_algebra.specs.declared.any.AnyRange.{AnyRange}
use Rattle.range_algebra.proofs.Lists.{every_weaker}
use Rattle.range_algebra.proofs.Positions.{flipped_back, flipped_bound_is_past, flipped_known, held_between, reaching_is_before_past}
use Rattle.range_store.specs.declared.storage.Item.{Item}
use Rattle.range_runs.specs.Stored.{item_upper}
use Rattle.range_runs.proofs.Extents.{past_le}
use Rattle.range_runs.proofs.Forms.{Known, Chained, before_is, chain_stored}
use Rattle.range_runs.proofs.PlaceOrder.{cases, eq_ge, eq_le, le_refl, le_trans, lt_le, le_lt_trans, lt_le_trans, lt_not_le, not_le, not_lt}
use Rattle.range_reads.specs.FreeRanges.{item_ranges}
use Rattle.range_merge.specs.Merged.{IsPlaced}
use Rattle.range_merge.proofs.FirstPieces.{is_part_past}
use Rattle.range_set_extend.specs.KeySets.{HoldsKey, IsStoredSet, SomeHolds}
use Rattle.range_sets.specs.Sharing.{StartPast, LieApart}
use Rattle.range_sets.specs.Subtracting.{IsFront, IsRest, IsFrontPushed}
use Rattle.range_sets.specs.TwoSets.{HoldsFirstAlone}
use Rattle.range_sets.specs.Uniting.{IsPushed}
use Rattle.range_sets.proofs.Sharing.{EndBefore, held_past, past_sooner}
use Rattle.range_sets.proofs.Uniting.{ArePushed, StandBefore, are_pushed, one_class, one_value, ranges_hold}

module _ {K : Type 0} {order : KeyOrder K} (lawful : IsLawful order) where
  abbrev cmp : Position K → Position K → Ordering
  cmp = position_cmp order.cmp

  abbrev Items : Type 0
  Items = List (Item (AnyRange K) (Unit {0}))

  -- two ranges, of which the one is taken away from the other
  module _ (r s : AnyRange K) (placed : IsPlaced order r) (other : IsPlaced order s) where
    -- the range ends before the other starts
    pub whole_front : (¬ Le cmp (start_position order s.start) (end_position order r.end))
        → IsFront order r s r
    whole_front none =
        record {
          placed = placed;
          start = refl;
          before =
              (before_is order lawful r.end s.start placed.known.1 other.known.0).0
              (not_le lawful (end_position order r.end) (start_position order s.start) none);
          below = le_refl lawful (upper order r);
          upto = inr (le_refl lawful (upper order r));
        }

    -- the range goes on where the other starts
    pub cut_front : (e : Bound K) → flipped s.start ≡ Some e
        → (¬ Le cmp (lower order s) (lower order r))
        → Le cmp (start_position order s.start) (end_position order r.end)
        → IsFront order r s (with_bounds r.start e)
    cut_front e turns none goes =
        let back = flipped_back order lawful s.start e turns in
        let at = flipped_bound_is_past order lawful e s.start back in
        let known = flipped_known order lawful s.start e turns other.known.0 in
        let reach =
        (reaching_is_before_past order lawful s.start r.end other.known.0 placed.known.1).0 goes in
        let front = with_bounds r.start e in
        let below = eq_le lawful (upper order front) (lower order s) at in
        let above = eq_ge lawful (upper order front) (lower order s) at in
        record {
          placed = record {
            known = (placed.known.0, known);
            good =
                lt_le_trans lawful (lower order r) (lower order s) (upper order front)
                (not_le lawful (lower order r) (lower order s) none) above;
          };
          start = refl;
          before = below;
          below =
              le_trans lawful (upper order front) (lower order s) (upper order r) below
              (lt_le lawful (lower order s) (upper order r) reach);
          upto = inl above;
        }

    -- the range starts before the other ends, and goes on past that
    pub turned_rest : (i : Bound K) → flipped s.end ≡ Some i
        → Lt cmp (end_position order s.end) (end_position order r.end)
        → Le cmp (start_position order r.start) (end_position order s.end)
        → IsRest order r s (with_bounds i r.end)
    turned_rest i turns before goes =
        let at = flipped_bound_is_past order lawful s.end i turns in
        let rest = with_bounds i r.end in
        let whole : Item (AnyRange K) (Unit {0}) = record { key = r; value = tt } in
        let past = eq_le lawful (upper order s) (lower order rest) at in
        let reach =
        (reaching_is_before_past order lawful r.start s.end placed.known.0 other.known.1).0 goes in
        record {
          placed =
              (is_part_past lawful whole placed s.end i other.known.1 before turns).placed;
          end = refl;
          above =
              le_trans lawful (lower order r) (upper order s) (lower order rest)
              (lt_le lawful (lower order r) (upper order s) reach) past;
          past = past;
          from = inr (eq_ge lawful (upper order s) (lower order rest) at);
        }

    -- a key of the range that the other has not lies before that or past it
    off_other : (k : K) → order.is_key k → (¬ Holds order s k)
        → Lt cmp (Beside k At) (lower order s) ⊎ Le cmp (upper order s) (Beside k At)
    off_other k key off =
        elim (cases lawful (Beside k At) (lower order s)) [
          | inl before ↦ inl before
          | inr from ↦
              inr (not_lt lawful (upper order s) (Beside k At)
              (λ within. off ((held_between order lawful s k other.known key).1 (from, within))))
        ]

    module _ (front : AnyRange K) (is : IsFront order r s front) where
      front_lower : lower order front ≡ lower order r
      front_lower = rw is.start refl

      front_in : (k : K) → order.is_key k → Holds order front k → Holds order r k
      front_in k key h =
          let within = (held_between order lawful front k is.placed.known key).0 h in
          (held_between order lawful r k placed.known key).1
          (rw front_lower at within.0, lt_le_trans lawful (Beside k At) _ _ within.1 is.below)

      front_has : (k : K) → order.is_key k → Holds order r k
          → Lt cmp (Beside k At) (lower order s) → Holds order front k
      front_has k key h before =
          let within = (held_between order lawful r k placed.known key).0 h in
          (held_between order lawful front k is.placed.known key).1 (
            rw front_lower within.0,
            elim is.upto [
              | inl le ↦
                  lt_le_trans lawful (Beside k At) (lower order s) (upper order front) before le
              | inr le ↦
                  lt_le_trans lawful (Beside k At) (upper order r) (upper order front) within.1 le
            ],
          )

    module _ (rest : AnyRange K) (is : IsRest order r s rest) where
      rest_upper : upper order rest ≡ upper order r
      rest_upper = rw is.end refl

      rest_in : (k : K) → order.is_key k → Holds order rest k → Holds order r k
      rest_in k key h =
          let within = (held_between order lawful rest k is.placed.known key).0 h in
          (held_between order lawful r k placed.known key).1
          (le_trans lawful _ _ (Beside k At) is.above within.0, rw rest_upper at within.1)

      rest_off : (k : K) → order.is_key k → Holds order rest k → ¬ Holds order s k
      rest_off k key h held =
          lt_not_le lawful (Beside k At) (upper order s)
          ((held_between order lawful s k other.known key).0 held).1
          (le_trans lawful (upper order s) (lower order rest) (Beside k At) is.past
          ((held_between order lawful rest k is.placed.known key).0 h).0)

      rest_has : (k : K) → order.is_key k → Holds order r k
          → Le cmp (upper order s) (Beside k At) → Holds order rest k
      rest_has k key h past =
          let within = (held_between order lawful r k placed.known key).0 h in
          (held_between order lawful rest k is.placed.known key).1 (
            elim is.from [
              | inl le ↦ le_trans lawful _ (lower order r) (Beside k At) le within.0
              | inr le ↦ le_trans lawful _ (upper order s) (Beside k At) le past
            ],
            rw rest_upper within.1,
          )

  module _ (items others : List (AnyRange K)) where
    -- those that stand, and what is left on both sides, hold together what the first list has alone
    pub record IsSubtractedUpTo (left right : List (AnyRange K)) (built : Items) : Type 0 where
      pub known : Known order lawful one_value one_class built
      pub chain : Chained order lawful one_value one_class built
      pub left_apart : LieApart order left
      pub right_apart : LieApart order right
      pub before : EndBefore order built left
      pub held : (k : K) → order.is_key k
          → (HoldsKey order built k ⊎ (SomeHolds order left k × (¬ SomeHolds order right k)))
          ↔ (SomeHolds order items k × (¬ SomeHolds order others k))

    -- at first none stands
    pub subtracted_none : LieApart order items → LieApart order others
        → IsSubtractedUpTo items others []
    subtracted_none apart others_apart =
        record {
          known = tt;
          chain = tt;
          left_apart = apart;
          right_apart = others_apart;
          before = tt;
          held = λ k key. grind arith;
        }

    -- what stands once the front of the first range does, if it has one
    record AreWithFront (r s : AnyRange K) (built new : Items) : Type 0 where
      known : Known order lawful one_value one_class new
      chain : Chained order lawful one_value one_class new
      past : (m : Position K) → Le cmp (lower order r) m
          → Lt cmp (lower order s) m ⊎ Lt cmp (upper order r) m
          → Every (λ i. Lt cmp (item_upper order i) m) new
      kept : (k : K) → order.is_key k → HoldsKey order built k → HoldsKey order new k
      added : (k : K) → order.is_key k → HoldsKey order new k
          → HoldsKey order built k ⊎ (Holds order r k × Lt cmp (Beside k At) (lower order s))
      fronts : (k : K) → order.is_key k → Holds order r k
          → Lt cmp (Beside k At) (lower order s) → HoldsKey order new k

    module _ {r s : AnyRange K} {left right : List (AnyRange K)} {built : Items}
        (was : IsSubtractedUpTo (r ∷ left) (s ∷ right) built)
        (is_clone : K → K → Type 0)
        (clones : (a b : Bound K) → IsBoundClone is_clone a b → SameBound order a b) where
      front_stands : (front : AnyRange K) → IsFront order r s front → StandBefore lawful built front
      front_stands front is =
          record { known = was.known; chain = was.chain; before = rw is.start was.before }

      with_front : (new : Items) → IsFrontPushed order is_clone built new r s
          → AreWithFront r s built new
      with_front new (inl (front, is, pushed)) =
          let now : ArePushed lawful is_clone clones built new front =
          are_pushed lawful is_clone clones built new front is.placed (front_stands front is) pushed
          in
          record {
            known = now.known;
            chain = now.chain;
            past = λ m from lt.
                let ends : Lt cmp (upper order front) m =
                elim lt [
                  | inl lt ↦ le_lt_trans lawful (upper order front) (lower order s) m is.before lt
                  | inr lt ↦ le_lt_trans lawful (upper order front) (upper order r) m is.below lt
                ] in
                every_weaker _ _ new
                (λ i le. le_lt_trans lawful (item_upper order i) (upper order front) m le ends)
                now.upto;
            kept = λ k key h. (now.holds k key).1 (inl h);
            added = λ k key h.
                elim ((now.holds k key).0 h) [
                  | inl old ↦ inl old
                  | inr it ↦
                      inr (
                        front_in r s was.left_apart.0 was.right_apart.0 front is k key it,
                        lt_le_trans lawful (Beside k At) (upper order front) (lower order s)
                            ((held_between order lawful front k is.placed.known key).0 it).1
                            is.before,
                      )
                ];
            fronts = λ k key h lt.
                (now.holds k key).1
                (inr (front_has r s was.left_apart.0 was.right_apart.0 front is k key h lt));
          }
      with_front new (inr none) =
          rw none.1 (record {
            known = was.known;
            chain = was.chain;
            past = λ m from lt.
                every_weaker _ _ built
                (λ i less. lt_le_trans lawful (item_upper order i) (lower order r) m less from)
                was.before;
            kept = λ k key h. h;
            added = λ k key h. inl h;
            fronts = λ k key h lt.
                absurd (lt_not_le lawful (Beside k At) (lower order s) lt
                (le_trans lawful (lower order s) (lower order r) (Beside k At) none.0
                ((held_between order lawful r k was.left_apart.0.known key).0 h).0));
          })

      -- no key before the second range is among those from it on
      none_from : (k : K) → order.is_key k → Lt cmp (Beside k At) (lower order s)
          → ¬ SomeHolds order (s ∷ right) k
      none_from k key lt (inl h) =
          lt_not_le lawful (Beside k At) (lower order s) lt
          ((held_between order lawful s k was.right_apart.0.known key).0 h).0
      none_from k key lt (inr h) =
          lt_not_le lawful (upper order s) (Beside k At)
          (held_past lawful (upper order s) right k key was.right_apart.1.0 was.right_apart.1.1 h)
          (lt_le lawful (Beside k At) (upper order s)
          (lt_le_trans lawful (Beside k At) (lower order s) (upper order s) lt
          (lt_le lawful (lower order s) (upper order s) was.right_apart.0.good)))

      -- what stands ends before the ranges after the first
      end_before_next : (new : Items) → AreWithFront r s built new → (next : List (AnyRange K))
          → StartPast order (upper order r) next → EndBefore order new next
      end_before_next new now [] past = every_weaker _ _ new (λ i known. tt) now.known
      end_before_next new now (t ∷ ts) past =
          now.past (lower order t)
          (le_trans lawful (lower order r) (upper order r) (lower order t)
          (lt_le lawful (lower order r) (upper order r) was.left_apart.0.good)
          (lt_le lawful (upper order r) (lower order t) past)) (inr past)

      -- the second range is used up
      pub subtracted_right : (new : Items) (rest : AnyRange K)
          → IsFrontPushed order is_clone built new r s → IsRest order r s rest
          → IsSubtractedUpTo (rest ∷ left) right new
      subtracted_right new rest pushed is =
          let placed = was.left_apart.0 in
          let other = was.right_apart.0 in
          let now = with_front new pushed in
          let strictly =
          lt_le_trans lawful (lower order s) (upper order s) (lower order rest) other.good is.past
          in
          let same = rest_upper r s placed other rest is in
          let shorter : Lt cmp (upper order s) (upper order r) =
          rw same at (le_lt_trans lawful (upper order s) (lower order rest) (upper order rest)
          is.past is.placed.good) in
          let off : (k : K) → order.is_key k → SomeHolds order left k → ¬ Holds order s k =
          λ k key l h.
          lt_not_le lawful (Beside k At) (upper order s)
          ((held_between order lawful s k other.known key).0 h).1
          (lt_le lawful (upper order s) (Beside k At)
          (lt_le_trans lawful (upper order s) (upper order r) (Beside k At) shorter
          (lt_le lawful (upper order r) (Beside k At)
          (held_past lawful (upper order r) left k key was.left_apart.1.0 was.left_apart.1.1
          l)))) in
          record {
            known = now.known;
            chain = now.chain;
            left_apart = (is.placed, (rw same was.left_apart.1.0, was.left_apart.1.1));
            right_apart = was.right_apart.1.1;
            before = now.past (lower order rest) is.above (inl strictly);
            held = λ k key. (
              λ h. (was.held k key).0 (elim h [
                | inl n ↦ elim (now.added k key n) [
                  | inl old ↦ inl old
                  | inr it ↦ inr (inl it.0, none_from k key it.1)
                ]
                | inr x ↦ inr (elim x.0 [
                  | inl it ↦ (
                    inl (rest_in r s placed other rest is k key it),
                    λ y. elim y [
                      | inl held ↦ rest_off r s placed other rest is k key it held
                      | inr later ↦ x.1 later
                    ],
                  )
                  | inr it ↦ (
                    inr it,
                    λ y. elim y [
                      | inl held ↦ off k key it held
                      | inr later ↦ x.1 later
                    ],
                  )
                ])
              ]),
              λ h. elim ((was.held k key).1 h) [
                | inl old ↦ inl (now.kept k key old)
                | inr x ↦ elim x.0 [
                  | inl it ↦ elim (off_other r s placed other k key (λ held. x.1 (inl held))) [
                    | inl lt ↦ inl (now.fronts k key it lt)
                    | inr past ↦
                        inr (
                          inl (rest_has r s placed other rest is k key it past),
                          λ later. x.1 (inr later),
                        )
                  ]
                  | inr it ↦ inr (inr it, λ later. x.1 (inr later))
                ]
              ],
            );
          }

      -- the first range is used up
      pub subtracted_left : (new : Items) → IsFrontPushed order is_clone built new r s
          → Le cmp (end_position order r.end) (end_position order s.end)
          → IsSubtractedUpTo left (s ∷ right) new
      subtracted_left new pushed ends =
          let placed = was.left_apart.0 in
          let other = was.right_apart.0 in
          let now = with_front new pushed in
          let shorter = past_le order lawful r.end s.end placed.known.1 other.known.1 ends in
          record {
            known = now.known;
            chain = now.chain;
            left_apart = was.left_apart.1.1;
            right_apart = was.right_apart;
            before = end_before_next new now left was.left_apart.1.0;
            held = λ k key. (
              λ h. (was.held k key).0 (elim h [
                | inl n ↦ elim (now.added k key n) [
                  | inl old ↦ inl old
                  | inr it ↦ inr (inl it.0, none_from k key it.1)
                ]
                | inr x ↦ inr (inr x.0, x.1)
              ]),
              λ h. elim ((was.held k key).1 h) [
                | inl old ↦ inl (now.kept k key old)
                | inr x ↦ elim x.0 [
                  | inl it ↦ elim (off_other r s placed other k key (λ held. x.1 (inl held))) [
                    | inl lt ↦ inl (now.fronts k key it lt)
                    | inr past ↦
                        absurd (lt_not_le lawful (Beside k At) (upper order s)
                        (lt_le_trans lawful (Beside k At) (upper order r) (upper order s)
                        ((held_between order lawful r k placed.known key).0 it).1 shorter) past)
                  ]
                  | inr it ↦ inr (it, x.1)
                ]
              ],
            );
          }

    module _ {r : AnyRange K} {left : List (AnyRange K)} {built : Items}
        (was : IsSubtractedUpTo (r ∷ left) [] built) (is_clone : K → K → Type 0)
        (clones : (a b : Bound K) → IsBoundClone is_clone a b → SameBound order a b) where
      -- nothing is taken away from the first range
      pub subtracted_whole : (new : Items) → IsPushed order is_clone built new r
          → IsSubtractedUpTo left [] new
      subtracted_whole new pushed =
          let stand : StandBefore lawful built r =
          record { known = was.known; chain = was.chain; before = was.before } in
          let now : ArePushed lawful is_clone clones built new r =
          are_pushed lawful is_clone clones built new r was.left_apart.0 stand pushed in
          record {
            known = now.known;
            chain = now.chain;
            left_apart = was.left_apart.1.1;
            right_apart = tt;
            before =
                every_weaker _ _ new
                (λ i le. past_sooner lawful (item_upper order i) (upper order r) left le
                was.left_apart.1.0) now.upto;
            held = λ k key. grind (arith, was.held k key, now.holds k key);
          }

  -- in the end just the keys of the first list alone are held
  pub subtracted_all : (items others : Items) (left right : List (AnyRange K)) (built : Items)
      → left ≡ [] → IsSubtractedUpTo (item_ranges items) (item_ranges others) left right built
      → HoldsFirstAlone order items others built × IsStoredSet order built
  subtracted_all items others left right built none was =
      let all = rw none at was in (
        λ k key. grind (arith, all.held k key, ranges_hold order items k, ranges_hold order others k),
        chain_stored order lawful one_value one_class built all.known all.chain,
      )
