-- What is planned on both sides of a range for a list that comes to stand there.
use Rattle.range_edit.proofs.Common.{Bor, option_copied, common_steps, ◌≡◌, ℕ, ◌+◌, ◌-◌, ◌<◌, ◌≤◌, inl, inr, List, [], ◌∷◌, ◌++◌, length, take, refl, ap, ◌∙◌, arith, Option, Some, None, Bool, slice_get, IsEquivalence, tied_itself, position_total, Bound, KeyOrder, IsLawful, AnyRange, IsAt, Item, joined_count, IsLeftShape, IsRightShape, right_side, IsRunStart, AreEnds, IsWindow, IsStored, IsBoundOfKey, SameBound, flipped_bound, seam_border, option_items, Border, Window, AreWithin, ReachesBefore, ReachesAfter, with_start, with_end, with_first_start, lower, upper, item_lower, item_upper, PLe, lt_not_le}
use Rattle.range_edit.specs.declared.borders.Joins.{Joins}
use Rattle.range_edit.specs.declared.reach.Ends.{Ends}
use Rattle.range_edit.specs.Borders.{IsSeamAt, run_length}
use Rattle.range_edit.specs.Plans.{IsJoinedLeft, IsJoinedRight}
use Rattle.range_edit.specs.Seams.{IsFirstSeam, IsLastSeam}
use Rattle.range_edit.proofs.BoundEdits.{cut_joins_none}
use Rattle.range_runs.proofs.ItemPlaces.{element_at, element_at_is_read}
use Rattle.range_edit.proofs.Lengths.{border_length}
use Rattle.range_edit.proofs.OuterBounds.{ending}
use Rattle.range_edit.proofs.SewnSides.{IsLeftSide, IsRightSide, first_reaches, last_starts, own_stored, own_within, left_side_cut, left_side_joined, left_side_whole, right_side_cut, right_side_joined, right_side_whole}

pub got_none : {X : Type 0} (P : X → Type 0) (o : Option (Bor X)) → o ≡ None → (m : X)
    → option_copied o ≡ Some m → P m
got_none P o is m e = absurd (cc)

pub got_only : {X : Type 0} (P : X → Type 0) (o : Option (Bor X)) (i : Bor X) → o ≡ Some i → P i.now
    → (m : X) → option_copied o ≡ Some m → P m
got_only P o i is h m e = grind (arith, common_steps)

first_of : {X : Type 0} (xs : List X) (m : X) → slice_get xs 0 ≡ Some m
    → (ms : List X) × (xs ≡ m ∷ ms)
first_of [] m is = absurd (cc)
first_of (x ∷ xs) m is = (xs, cc)

-- only an item that joins gives way beyond the window
pub seam_count : {K P : Type 0} (joined reaching : Option P) (b : Bound K)
    → joined_count (seam_border joined reaching b) ≡ length (option_items joined)
seam_count option reaching b = grind (arith, common_steps, cut_joins_none)

module _ {K : Type 0} (order : KeyOrder K) {V : Type 0} (same : V → V → Bool)
    (lawful : IsLawful order) (equal : IsEquivalence same) {P : Type 0} (is_good : P → Type 0)
    (rank : P → ℕ) (items : List (Item (AnyRange K) V)) (r : AnyRange K) (place count : ℕ)
    (middle : List (Item (AnyRange K) V)) where
  -- before the range: `first` is the item that reaches out of it
  pub record IsLeftPlan (first : Option P) (border : Border K P) (from : Option P) : Type 0 where
    pub at : ℕ
    pub begin : ℕ
    pub rest : Option (Item (AnyRange K) V)
    pub start : Option (Bound K)
    pub shape : IsLeftShape is_good rank items border at begin rest start
    pub side : IsLeftSide order lawful same equal items r place count middle at rest start
    pub run : IsAt is_good rank (length items) from begin
    pub begins : begin + joined_count border ≡ place + length (option_items first)

  -- after the range
  pub record IsRightPlan (front body : List (Item (AnyRange K) V)) (last : Option P)
      (border : Border K P) : Type 0 where
    pub upto : ℕ
    pub end : ℕ
    pub rest : Option (Item (AnyRange K) V)
    pub finish : Option (Bound K)
    pub shape : IsRightShape is_good rank items border upto end rest finish
    pub side : IsRightSide order lawful same equal items r place count middle front body end rest
        finish
    pub ends : upto + length (option_items last) ≡ place + count + joined_count border

  -- both sides, and the run of `size` items between them
  pub record IsPlan (first last : Option P) (border behind : Border K P) (from : Option P)
      (size : ℕ) : Type 0 where
    pub left : IsLeftPlan first border from
    pub right : IsRightPlan (take left.at items ++ option_items left.rest)
        (with_first_start left.start middle) last behind
    pub ends : left.begin + size ≡ right.upto
    pub within : right.upto ≤ length items
    pub joined : joined_count border + joined_count behind ≤ size

module _ {K : Type 0} {order : KeyOrder K} (lawful : IsLawful order) {V : Type 0}
    {same : V → V → Bool} (equal : IsEquivalence same) {P : Type 0} {is_good : P → Type 0}
    {rank : P → ℕ} {items : List (Item (AnyRange K) V)} {r : AnyRange K}
    (in_range : (p : P) → is_good p → rank p < length items) where
  module _ {w : Window P} {place : ℕ} (window : IsWindow order same is_good rank items r w place)
      {middle : List (Item (AnyRange K) V)} (others : IsStored order same middle)
      (within : AreWithin order middle r) where
    -- the item that a list does not join has another value, or ends before
    parted_before : {n : ℕ} {next : Option (Item (AnyRange K) V)}
        → IsFirstSeam order same is_good rank items r n next None → (m : Item (AnyRange K) V)
        → next ≡ Some m → PLe lawful (item_lower order m) (lower order r)
        → IsJoinedLeft order same is_good rank items r m.value n None
    parted_before (inl (i, at, starts, none)) m is le = let item : i ≡ m = cc in rw item at none
    parted_before (inr (later, at)) m is le = λ d some on t. lt_not_le lawful _ _ (later m is) le

    parted_after : {n : ℕ} {previous : Option (Item (AnyRange K) V)}
        → IsLastSeam order same is_good rank items r n previous None → (m : Item (AnyRange K) V)
        → previous ≡ Some m → PLe lawful (upper order r) (item_upper order m)
        → IsJoinedRight order same is_good rank items r m.value n None
    parted_after (inl (i, at, ends, none)) m is le = let item : i ≡ m = cc in rw item at none
    parted_after (inr (earlier, at)) m is le = λ d some on t. lt_not_le lawful _ _ (earlier m is) le

    left_plan : (first found from : Option P) (b : Bound K)
        → ReachesBefore order is_good rank items r place w.count first
        → IsFirstSeam order same is_good rank items r (place + length (option_items first))
        (slice_get middle 0) found → IsBoundOfKey order b × SameBound order (flipped_bound r.start) b
        → IsRunStart is_good rank (length items) place first found from
        → IsLeftPlan order same lawful equal is_good rank items r place w.count middle first
        (seam_border found first b) from
    left_plan first (Some q) from b before (inr h) cut start = absurd (let e = h.1 in cc)
    left_plan first (Some q) from b before (inl (m, is, at, joined)) cut start =
        let (good, next, joins) = joined in
        let x = element_at items (rank q) (in_range q good) in
        let read = element_at_is_read items (rank q) (in_range q good) x in
        let (from_x, reaches, alike) = rw (← read) at (joins x) in
        let (ms, list) = first_of middle m is in
        rw start (record {
          at = rank q;
          begin = rank q;
          rest = None;
          start = Some x.key.start;
          shape = (good, refl, refl, refl, (x, read, refl));
          side = left_side_joined lawful equal window others within first m ms list before (rank q)
              next (in_range q good) x read at from_x reaches alike;
          run = (good, refl);
          begins = next;
        })
    left_plan None None from b before seam cut start =
        let plus : place + 0 ≡ place = omega arith in
        record {
          at = place;
          begin = place;
          rest = None;
          start = None;
          shape = (refl, refl, refl);
          side = left_side_whole lawful equal window others within before
              (rw plus at (parted_before seam));
          run = rw plus at start;
          begins = omega arith;
        }
    left_plan (Some p) None from b before seam cut start =
        let inside : place < length items = omega (arith, before.2, window.in_range) in
        let x = element_at items place inside in
        let here = element_at_is_read items place inside x in
        let index : place + 1 - 1 ≡ place = omega arith in
        record {
          at = place;
          begin = place + 1;
          rest = Some (with_end x b);
          start = None;
          shape = (before.0, before.1, refl, refl, (x, here, refl));
          side = left_side_cut lawful equal window others within x here before.2 (before.3 x here) b
              cut (λ m is le. rw (index, ← here) at (parted_before seam m is le x)
              (omega arith) (first_reaches lawful equal window x here before.2));
          run = start;
          begins = omega arith;
        }

    right_plan : (front : List (Item (AnyRange K) V)) {at : ℕ}
        {rest : Option (Item (AnyRange K) V)} {start : Option (Bound K)}
        → IsLeftSide order lawful same equal items r place w.count middle at rest start
        → (last found : Option P) (b : Bound K)
        → ReachesAfter order is_good rank items r place w.count last
        → IsLastSeam order same is_good rank items r
        (place + w.count - length (option_items last)) (slice_get middle (length middle - 1)) found
        → IsBoundOfKey order b × SameBound order (flipped_bound r.end) b
        → IsRightPlan order same lawful equal is_good rank items r place w.count middle
        (take at items ++ option_items rest) (with_first_start start middle) last
        (seam_border found last b)
    right_plan front left last (Some q) b after (inr h) cut = absurd (let e = h.1 in cc)
    right_plan front left last (Some q) b after (inl (m, is, ends, joined)) cut =
        let (good, at, joins) = joined in
        let inside = in_range q good in
        let x = element_at items (rank q) inside in
        let read = element_at_is_read items (rank q) inside x in
        let (reaches, over, alike) = rw (← read) at (joins x) in
        let few : length (option_items last) ≤ w.count = grind (arith, common_steps, after) in
        elim (ending middle) [
          | inl none ↦ absurd (let e = rw none at is in cc)
          | inr (init, z, list, there) ↦
              let item : z ≡ m = cc in
              record {
                upto = rank q + 1;
                end = rank q + 1;
                rest = None;
                finish = Some x.key.end;
                shape = (good, refl, refl, refl, (x, read, refl));
                side = right_side_joined lawful equal window others within left last init m
                    (rw item at list) after (rank q) (omega (arith, at, few)) inside x read ends
                    reaches over alike;
                ends = omega (arith, at, few);
              }
        ]
    right_plan front left None None b after seam cut =
        let plus : place + w.count - 0 ≡ place + w.count = omega arith in
        record {
          upto = place + w.count;
          end = place + w.count;
          rest = None;
          finish = None;
          shape = (refl, refl, refl);
          side = right_side_whole lawful equal window others within left after
              (rw plus at (parted_after seam));
          ends = omega arith;
        }
    right_plan front left (Some p) None b after seam cut =
        let k = place + w.count - 1 in
        let inside : k < length items = omega (arith, after.2, window.in_range) in
        let x = element_at items k inside in
        let here = element_at_is_read items k inside x in
        record {
          upto = k;
          end = place + w.count;
          rest = Some (with_start x b);
          finish = None;
          shape = (after.0, omega (arith, after.1), omega (arith, after.2), refl, (x, here, refl));
          side = right_side_cut lawful equal window others within left x here after.2
              (after.3 x here) b cut x.value (equal.refl x.value) (λ m is on.
              rw (← here) at (parted_after seam m is on x) inside
              (last_starts lawful equal window x here after.2));
          ends = omega (arith, after.2);
        }

  module _ {ends : Ends P} {place : ℕ} (found : AreEnds order same is_good rank items r ends place)
      {joins : Joins P} {border behind : Border K P} {from : Option P}
      {count : ℕ} (on_left : IsSeamAt order joins.before ends.first r.start border)
      (on_right : IsSeamAt order joins.after ends.last r.end behind)
      (start : IsRunStart is_good rank (length items) place ends.first joins.before from)
      (size : count ≡ run_length ends joins) where
    pub plan_run : {middle : List (Item (AnyRange K) V)} → IsStored order same middle
        → AreWithin order middle r → IsFirstSeam order same is_good rank items r
        (place + length (option_items ends.first)) (slice_get middle 0) joins.before
        → IsLastSeam order same is_good rank items r
        (place + ends.window.count - length (option_items ends.last))
        (slice_get middle (length middle - 1)) joins.after
        → IsPlan order same lawful equal is_good rank items r place ends.window.count middle
        ends.first ends.last border behind from count
    plan_run {middle} others within first last =
        let left = rw (← on_left.at) at (left_plan found.window others within ends.first
        joins.before from on_left.cut found.first first (on_left.known, on_left.flipped) start) in
        let right = rw (← on_right.at) at (right_plan found.window others within [] left.side
        ends.last joins.after on_right.cut found.last last (on_right.known, on_right.flipped)) in
        let joined = ap joined_count on_left.at ∙ seam_count joins.before ends.first on_left.cut in
        let other = ap joined_count on_right.at ∙ seam_count joins.after ends.last on_right.cut in
        let least = border_length is_good rank items right_side behind right.upto right.end right.rest
        right.finish right.shape in
        record {
          left = left;
          right = right;
          ends = omega (arith, left.begins, right.ends, found.apart, size, joined, other);
          within = omega (arith, least, right.side.in_range);
          joined = omega (arith, size, joined, other);
        }

    -- for one item, whose range is that of the change
    pub plan_one : {v : V} → IsJoinedLeft order same is_good rank items r v
        (place + length (option_items ends.first)) joins.before
        → IsJoinedRight order same is_good rank items r v
        (place + ends.window.count - length (option_items ends.last)) joins.after
        → IsPlan order same lawful equal is_good rank items r place ends.window.count
        (record { key = r; value = v } ∷ []) ends.first ends.last border behind from count
    plan_one {v} first last =
        let own : Item (AnyRange K) V = record { key = r; value = v } in
        let total = position_total order.cmp lawful.total in
        plan_run (own_stored lawful equal v found.window.known found.window.nonempty)
        (own_within lawful equal r v) (inl (own, refl, tied_itself total (lower order r), first))
        (inl (own, refl, tied_itself total (upper order r), last))

    -- for none
    pub plan_none : joins.before ≡ None → joins.after ≡ None
        → IsPlan order same lawful equal is_good rank items r place ends.window.count [] ends.first
        ends.last border behind from count
    plan_none no_first no_last = grind (arith, common_steps, plan_run)
