-- What two ranges leave after their first piece, and what a closure may be asked of that.
use Rattle.std.proofs.Common.{◌≡◌, refl, sym, inl, inr, arith, ◌+◌, ◌<◌, ◌⊎◌, length, Bool, List, [], ◌++◌, Result, Ok, Option, Some, None}
use Rattle.range_merge.proofs.Common.{IsEquivalence, IsLawful, Position, position_cmp, Equal, Bound, IsBoundClone, SameBound, lower, Every, Shared, Bor, KeyOrder, AnyRange, Item, option_copied, option_map}
use Rattle.range_merge.specs.Combining.{IsValueOf, MayBeAskedBoth, MayBeAskedOfBoth, MayAnswerOnBoth, MayGiveValueOnBoth}
use Rattle.range_runs.specs.Put.{IsPut}
use Rattle.range_runs.specs.Window.{option_items}
use Rattle.range_runs.proofs.RangePieces.{any_over, any_use}
use Rattle.range_merge.proofs.Combination.{IsCombinedUpTo, combined_more, answered_piece}
use Rattle.range_merge.proofs.Combining.{IsSideUpTo, unmapped, fewer_ranges, no_longer}
use Rattle.range_merge.specs.AskedPieces.{IsFirstAskable, IsNextPiece, AreFirstAsked, MayAnswerOnFirst}
use Rattle.range_merge.specs.Merged.{IsPlaced, IsPlacedIn, IsCutFrom, StartAlike, IsFirstPieceOf, part_item}
use Rattle.range_merge.specs.declared.merged.Part.{Part}
use Rattle.range_merge.specs.declared.merged.Piece.{Piece}
use Rattle.range_merge.specs.declared.merged.Rests.{Rests}

-- each value of the list is one of the other
abbrev AreValuesIn : {K V : Type 0} → List (Item (AnyRange K) V) → List (Item (AnyRange K) V)
    → Type 0
AreValuesIn items xs = Every (λ x. IsValueOf items (Some x.value)) xs

value_within : {K V : Type 0} (items xs : List (Item (AnyRange K) V)) → AreValuesIn items xs
    → (u : Option V) → IsValueOf xs u → IsValueOf items u
value_within items xs within None of = tt
value_within items xs within (Some u) of =
    any_use _ _ xs of within (λ x same own. rw same at own)

-- what may be asked of two lists may be asked of two whose values are in them
pub asked_within : {K V W F A : Type 0} {items xs : List (Item (AnyRange K) V)}
    {others ys : List (Item (AnyRange K) W)}
    (calls : Shared F (Option (Bor V) × (Option (Bor W) × Unit {0})) A) (f : F)
    → MayBeAskedOfBoth calls f items others → AreValuesIn items xs → AreValuesIn others ys
    → MayBeAskedOfBoth calls f xs ys
asked_within {items} {xs} {others} {ys} calls f asked first second shown other_shown values =
    grind (arith, value_within)

-- the first of what is left has a nonempty range, and a value of the list
pub first_left : {K V : Type 0} {order : KeyOrder K} {items : List (Item (AnyRange K) V)}
    {m : Position K} {Done : Position K → Type 0} (first : Option (Item (AnyRange K) V))
    (rest : List (Item (AnyRange K) V))
    → IsSideUpTo order items m (option_items first ++ rest) Done
    → IsPlacedIn order first × AreValuesIn items (option_items first)
first_left None rest was = (tt, tt)
first_left {items} (Some i) rest was =
    (was.from.1, (any_over _ _ items (λ o is. is.0) was.from.2, tt))

module _ {K : Type 0} (order : KeyOrder K) where
  goes_on : {V W : Type 0} {left : Option (Item (AnyRange K) V)}
      {right : Option (Item (AnyRange K) W)} → StartAlike order left right
      → (left ≡ None → ⊥) × (right ≡ None → ⊥)
  goes_on alike = (λ e. cc (alike.2), λ e. cc (alike.3))

  -- a piece and what is left of a range have its value, and what is left is nonempty
  cut_values : {V : Type 0} (first : Option (Item (AnyRange K) V)) (key : AnyRange K)
      (value : Option V) (last : Option (Item (AnyRange K) V)) → IsPlacedIn order first
      → IsCutFrom order first key value last
      → IsValueOf (option_items first) value × IsPlacedIn order last
      × AreValuesIn (option_items first) (option_items last)
  cut_values None key None last placed cut = rw cut (tt, tt, tt)
  cut_values None key (Some v) last placed cut = absurd cut
  cut_values (Some i) key None last placed cut = rw cut.0 (tt, placed, (inl refl, tt))
  cut_values (Some i) key (Some v) None placed cut = (inl cut.0, tt, tt)
  cut_values (Some i) key (Some v) (Some j) placed cut =
      (inl cut.0, cut.2.placed, (inl (sym cut.2.value), tt))

  module _ {V W F A : Type 0} {calls : Shared F (Option (Bor V) × (Option (Bor W) × Unit {0})) A}
      {f : F} {piece : Piece K V W} (can : IsFirstAskable order calls f piece) where
    took : IsValueOf (option_items can.left) (option_copied piece.value)
        × IsPlacedIn order (option_map part_item piece.left)
        × AreValuesIn (option_items can.left) (option_items (option_map part_item piece.left))
    took = cut_values can.left _ _ _ can.placed can.first.first

    took_other : IsValueOf (option_items can.right) (option_copied piece.other_value)
        × IsPlacedIn order (option_map part_item piece.right)
        × AreValuesIn (option_items can.right) (option_items (option_map part_item piece.right))
    took_other = cut_values can.right _ _ _ can.placed_right can.first.second

    -- the closure may be asked of the piece
    pub asked_of_piece : MayBeAskedBoth calls f (option_copied piece.value)
        (option_copied piece.other_value)
    asked_of_piece shown other_shown shows other_shows = grind (arith, took, took_other)

    -- a piece that leaves a part of both ranges
    module _ {part : Part K V} {other : Part K W} (is : piece.left ≡ Some part)
        (is_other : piece.right ≡ Some other) where
      both_alike : StartAlike order (option_map part_item piece.left)
          (option_map part_item piece.right)
      both_alike =
          elim can.first.progress [
            | inl used ↦ let e = unmapped part_item piece.left used.1 in absurd (cc)
            | inr (inl used) ↦ let e = unmapped part_item piece.right used.1 in absurd (cc)
            | inr (inr now) ↦ now.1
          ]

      -- the two parts are as they have to be for a piece of both
      pub parts_of_both : IsPlaced order (part_item part).key × IsPlaced order (part_item other).key
          × (position_cmp order.cmp (lower order (part_item part).key)
          (lower order (part_item other).key) ≡ Equal)
      parts_of_both = grind (arith, both_alike, took, took_other)

      module _ (next : Piece K V W)
          (after : IsFirstPieceOf order (Some (part_item part))
          (Some (part_item other)) next) where
        -- the first piece of the two parts comes next
        pub comes_next : IsNextPiece order piece next
        comes_next = record { alike = both_alike; first = rw (is, is_other) after }

        -- which leaves nothing on one side
        pub one_ends : (next.left ≡ None) ⊎ (next.right ≡ None)
        one_ends =
            elim after.progress [
              | inl used ↦ inl (unmapped part_item next.left used.1)
              | inr (inl used) ↦ inr (unmapped part_item next.right used.1)
              | inr (inr now) ↦ absurd (now.0 (rw (is, is_other) at both_alike))
            ]

        -- and of which the closure may be asked
        pub next_askable : IsFirstAskable order calls f next
        next_askable = grind (arith, asked_within, parts_of_both, took, took_other)

-- where an answer that was put after the others leaves some, it is a value, or there were some
-- before
last_value : {K X : Type 0} (order : KeyOrder K) (same : X → X → Bool) (is_clone : K → K → Type 0)
    (P : Option X → Type 0) (r : AnyRange K) (old new : List (Item (AnyRange K) X))
    (answer : Option X) → IsPut order same is_clone old new r answer → P answer → 0 < length new
    → (0 < length old) ⊎ ((value : X) × P (Some value))
last_value order same is_clone P r old new None put is some = inl (rw put at some)
last_value order same is_clone P r old new (Some value) put is some = inr (value, is)

-- a merged pass, and the pieces that it asks of at once
module _ {K : Type 0} {order : KeyOrder K} {lawful : IsLawful order} {V W X : Type 0}
    {same : X → X → Bool} {equal : IsEquivalence same} {E : Type 0}
    {may : Option V → Option W → Result (Option X) E → Type 0}
    {items : List (Item (AnyRange K) V)} {others : List (Item (AnyRange K) W)}
    {rest : List (Item (AnyRange K) V)} {others_rest : List (Item (AnyRange K) W)}
    {is_clone : K → K → Type 0}
    (clones : (a b : Bound K) → IsBoundClone is_clone a b → SameBound order a b) where
  module _ {old : List (Item (AnyRange K) X)}
      {left : Option (Item (AnyRange K) V)} {right : Option (Item (AnyRange K) W)}
      (was : IsCombinedUpTo lawful equal may items others (option_items left ++ rest)
      (option_items right ++ others_rest) old) (none : left ≡ None → rest ≡ [])
      (none_other : right ≡ None → others_rest ≡ []) where
    -- the answers to the pieces belong to those so far, and fewer ranges are left
    pub combined_asked : (new : List (Item (AnyRange K) X)) (rests : Rests K V W)
        → AreFirstAsked order same is_clone may left right old new rests
        → IsCombinedUpTo lawful equal may items others
        (option_items (option_map part_item rests.left) ++ rest)
        (option_items (option_map part_item rests.right) ++ others_rest) new
        × (length (option_items (option_map part_item rests.left) ++ rest)
        + length (option_items (option_map part_item rests.right) ++ others_rest)
        < length (option_items left ++ rest) + length (option_items right ++ others_rest))
    combined_asked new rests (piece, first, (inl one, ends)) =
        grind (arith, combined_more, fewer_ranges, goes_on)
    combined_asked new rests (piece, first, (inr two, ends)) =
        let next = two.2 in
        let on = goes_on order next.alike in
        rw (two.4.1, two.4.2) (
          combined_more lawful equal may items others
              (combined_more lawful equal may items others was none none_other first two.3.0 _
              clones two.3.2 two.3.1) (λ e. absurd (on.0 e)) (λ e. absurd (on.1 e)) next.first
              two.4.0.0 _ clones two.4.0.2 two.4.0.1,
          grind (arith, fewer_ranges, no_longer),
        )

    -- what binds a part that is constant in both lists is answered so
    pub answered_asked : (answer : Result (Option X) E)
        → MayAnswerOnFirst order same is_clone may left right old answer
        → MayAnswerOnBoth order may items others answer
    answered_asked answer (piece, first, (inl says)) =
        answered_piece lawful equal may items others was none none_other first answer says
    answered_asked answer (piece, first, (inr two)) =
        let on = goes_on order two.2.alike in
        answered_piece lawful equal may items others
        (combined_more lawful equal may items others was none none_other first two.3.0 _ clones
        two.3.2 two.3.1) (λ e. absurd (on.0 e)) (λ e. absurd (on.1 e)) two.2.first answer two.4

    abbrev IsAnsweredFirst : Option X → Type 0
    IsAnsweredFirst answer = MayAnswerOnFirst order same is_clone may left right old (Ok answer)

    value_so_far : (0 < length old → MayGiveValueOnBoth order may items others)
        → (0 < length old) ⊎ ((value : X) × IsAnsweredFirst (Some value))
        → MayGiveValueOnBoth order may items others
    value_so_far so_far (inl some) = so_far some
    value_so_far so_far (inr (value, is)) = (value, answered_asked (Ok (Some value)) is)

    -- where there are answers, one of the pieces so far was answered by a value
    pub value_answered : (new : List (Item (AnyRange K) X)) (rests : Rests K V W)
        → AreFirstAsked order same is_clone may left right old new rests
        → (0 < length old → MayGiveValueOnBoth order may items others) → 0 < length new
        → MayGiveValueOnBoth order may items others
    value_answered new rests (piece, first, (inl one, ends)) so_far some =
        value_so_far so_far
        (last_value order same is_clone IsAnsweredFirst _ old new one.0.0 one.0.2
        (piece, first, inl one.0.1) some)
    value_answered new rests (piece, first, (inr two, ends)) so_far some =
        elim (last_value order same is_clone IsAnsweredFirst _ two.1 new two.4.0.0 two.4.0.2
        (piece, first, inr (two.0, two.1, two.2, two.3, two.4.0.1)) some) [
          | inl before ↦
              value_so_far so_far
              (last_value order same is_clone IsAnsweredFirst _ old two.1 two.3.0 two.3.2
              (piece, first, inl two.3.1) before)
          | inr given ↦ value_so_far so_far (inr given)
        ]
