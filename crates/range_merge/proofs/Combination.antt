-- A merged pass over two lists: what the answers so far make of both.
use Rattle.std.proofs.Common.{◌≡◌, refl, sym, ◌∙◌, ◌↔◌, ◌⊎◌, inl, inr, arith, Bool, true, Option, Some, None, Result, Ok, List, [], ◌∷◌, ◌++◌}
use Rattle.range_merge.proofs.Common.{IsEquivalence, Bound, Equal, KeyOrder, IsLawful, Position, position_cmp, Beside, At, IsBoundClone, SameBound, lower, upper, Lt, Any, Every, Holds, LiesBefore, AnyRange, any_left, any_none, any_split, every_append, every_weaker, Item, Answered, IsAsAnswered, IsBound, Binds, BindsTo, LiesIn, IsStored}
use Rattle.range_merge.specs.Combining.{Combined, IsConstantOn, IsSharedPiece, AreCombined, IsCombination, MayAnswerOnBoth}
use Rattle.range_runs.proofs.PlaceOrder.{le_refl, lt_le, le_trans, lt_le_trans, lt_not_le, lt_trans}
use Rattle.range_algebra.specs.RangeOrder.{range_cmp}
use Rattle.range_algebra.proofs.Positions.{held_between, unbounded_start, unbounded_end}
use Rattle.range_runs.specs.Put.{IsPut}
use Rattle.range_merge.specs.Merged.{IsFirstPiece}
use Rattle.range_runs.specs.Neighbours.{EachNext}
use Rattle.range_runs.specs.Window.{option_items}
use Rattle.range_merge.proofs.Combining.{full_range, PLe, HoldsAt, SomeHoldsAt, IsSideUpTo, IsTaken, taken, not_left, side_none, side_more, side_all, constant_on, some_of}
use Rattle.range_merge.proofs.WidestPieces.{IsEnd, LiesBetweenEnds, LieBetweenEnds, constant_held, same_piece, widest, rest_between, piece_between, items_between, others_between}
use Rattle.range_runs.proofs.RangePieces.{any_end, any_over, any_use, any_with, every_with, next_last}
use Rattle.range_runs.proofs.AnswerLists.{IsFilledUpTo, filled_none, fill_more, Alike, Gives}
use Rattle.range_runs.proofs.Forms.{Known, Hold, before_is, nonempty_good, chain_stored, binds_hold, bound_hold, respects_any}
use Rattle.range_runs.proofs.Overlaps.{binding_meets}
use Rattle.range_runs.proofs.Windows.{every_both}
use Rattle.range_merge.proofs.HeldInside.{inside_holds, lies_in_holds}

any_last : {X : Type 0} (P : X → Type 0) (xs : List X) (x : X)
    → Any P (xs ++ x ∷ []) ↔ (Any P xs ⊎ P x)
any_last P xs x = grind (arith, any_split P xs (x ∷ []), any_left P xs (x ∷ []), any_end P xs x)

-- of what a list holds, where a part is told otherwise
told : {N A B M P : Type 0} → N ↔ A → A ↔ (B ⊎ P) → M ↔ B → N ↔ (M ⊎ P)
told now last old = grind arith

stays : {N M P G : Type 0} → N ↔ (M ⊎ P) → (P → ⊥) → M ↔ G → N ↔ G
stays more none old = grind arith

comes : {N M P G : Type 0} → N ↔ (M ⊎ (P × G)) → (M → ⊥) → P → N ↔ G
comes more none at = grind arith

module _ {K : Type 0} {order : KeyOrder K} (lawful : IsLawful order) {V W X : Type 0}
    {same : X → X → Bool} (equal : IsEquivalence same) {E : Type 0}
    (may : Option V → Option W → Result (Option X) E → Type 0)
    (items : List (Item (AnyRange K) V)) (others : List (Item (AnyRange K) W)) where
  abbrev Answer : Type 0
  Answer = Combined K V W X

  -- a list holds the place as the answer says
  abbrev IsHeldAs : Position K → List (Item (AnyRange K) X) → Option X → Type 0
  IsHeldAs p new answer = (U : X → Bool) → Alike order lawful same equal full_range U
      → Hold order lawful same equal U p new ↔ Gives order lawful same equal full_range U answer

  -- some answer is to a range that holds the place
  abbrev IsDone : List Answer → Position K → Type 0
  IsDone answers p = Any (λ c. HoldsAt order p c.key) answers

  -- the two lists are seen in what is left and in the pieces so far
  pub record IsCombinedUpTo (left : List (Item (AnyRange K) V))
      (right : List (Item (AnyRange K) W)) (middle : List (Item (AnyRange K) X)) : Type 0 where
    pub answers : List Answer
    pub upto : Position K
    pub first : IsSideUpTo order items upto left (IsDone answers)
    pub second : IsSideUpTo order others upto right (IsDone answers)
    pub between : LieBetweenEnds lawful items others left
    pub others_between : LieBetweenEnds lawful items others right
    pub each : Every (λ c. IsSharedPiece order items others c.key c.left c.right) answers
    pub ended : Every (λ c. IsEnd order items others (upper order c.key)) answers
    pub rising : EachNext (λ c d. LiesBefore order c.key d.key) answers
    pub below : Every (λ c. PLe order (upper order c.key) upto) answers
    pub given : Every (λ c. may c.left c.right (Ok c.answer)) answers
    pub answered : List (Answered K X)
    pub filled : IsFilledUpTo order lawful same equal full_range upto answered middle
    pub held : (p : Position K) → IsDone answers p
        → Any (λ c. HoldsAt order p c.key × IsHeldAs p middle c.answer) answers
    pub free : (p : Position K) → Hold order lawful same equal (λ u. true) p middle
        → IsDone answers p

  -- at first all is left
  pub combined_none : {same_left : V → V → Bool} → IsEquivalence same_left
      → {same_right : W → W → Bool} → IsEquivalence same_right → IsStored order same_left items
      → IsStored order same_right others → IsCombinedUpTo items others []
  combined_none equal_left equal_right stored stored_others = record {
    answers = [];
    upto = lower order full_range;
    first = side_none lawful equal_left items stored (IsDone []);
    second = side_none lawful equal_right others stored_others (IsDone []);
    between = items_between lawful items others;
    others_between = others_between lawful items others;
    each = tt;
    ended = tt;
    rising = tt;
    below = tt;
    given = tt;
    answered = [];
    filled = filled_none order lawful same equal full_range (lower order full_range);
    held = λ p h. h;
    free = λ p h. h;
  }

  seen_done : {U : Type 0} {xs left : List (Item (AnyRange K) U)} {m p : Position K}
      {Done : Position K → Type 0} → IsSideUpTo order xs m left Done
      → (SomeHoldsAt order p left → ⊥) → SomeHoldsAt order p xs → Done p
  seen_done side none at = grind arith

  -- a piece of which nothing is left was asked about
  was_asked : {left : List (Item (AnyRange K) V)} {right : List (Item (AnyRange K) W)}
      {middle : List (Item (AnyRange K) X)} (was : IsCombinedUpTo left right middle)
      (piece : AnyRange K) (value : Option V) (other : Option W)
      → IsSharedPiece order items others piece value other
      → (SomeHoldsAt order (lower order piece) left → ⊥)
      → (SomeHoldsAt order (lower order piece) right → ⊥)
      → Any (λ c. (range_cmp order c.key piece ≡ Equal) × (c.left ≡ value) × (c.right ≡ other))
      was.answers
  was_asked was piece value other is no_left no_right =
      let part = is.part in
      let good = (nonempty_good order lawful piece part.known).0 part.nonempty in
      let at : HoldsAt order (lower order piece) piece = (le_refl lawful _, good) in
      let done : IsDone was.answers (lower order piece) =
      elim (some_of value other part.bound) [
        | inl some ↦ seen_done was.first no_left (constant_held lawful was.first piece
            part.known value part.first some _ at)
        | inr some ↦ seen_done was.second no_right (constant_held lawful was.second piece
            part.known other part.second some _ at)
      ] in
      any_with _ _ _ was.answers done (every_both _ _ was.answers was.each was.ended)
      (λ c held own. same_piece lawful was.first was.second c.key piece c.left value c.right
      other own.0.part own.1 is at held)

  -- the next piece, and the lists of which it is the first
  module _ {middle : List (Item (AnyRange K) X)}
      {first : Option (Item (AnyRange K) V)} {rest : List (Item (AnyRange K) V)}
      {second : Option (Item (AnyRange K) W)} {others_rest : List (Item (AnyRange K) W)}
      (was : IsCombinedUpTo (option_items first ++ rest) (option_items second ++ others_rest)
      middle) (none : first ≡ None → rest ≡ []) (none_other : second ≡ None → others_rest ≡ [])
      {key : AnyRange K} {value : Option V} {other : Option W}
      {last : Option (Item (AnyRange K) V)} {last_other : Option (Item (AnyRange K) W)}
      (piece : IsFirstPiece order first second key value other last last_other) where
    took : IsTaken order items (option_items first ++ rest) was.upto key value
        (option_items last ++ rest)
    took = taken lawful piece.placed first value last none piece.first was.first.from

    took_other : IsTaken order others (option_items second ++ others_rest) was.upto key other
        (option_items last_other ++ others_rest)
    took_other =
        taken lawful piece.placed second other last_other none_other piece.second was.second.from

    starts_after : PLe order was.upto (lower order key)
    starts_after = grind (arith, some_of, took, took_other)

    not_done : (p : Position K) → HoldsAt order p key → IsDone was.answers p → ⊥
    not_done p at done =
        any_none _ _ was.answers was.below (grind (arith, le_trans, lt_not_le, starts_after)) done

    ends : LiesBetweenEnds order items others key
    ends = piece_between lawful items others piece rest others_rest was.between was.others_between

    -- both lists are constant on it, and it is as wide as it goes
    is_shared : IsSharedPiece order items others key value other
    is_shared = record {
      part = record {
        known = piece.placed.known;
        nonempty = (nonempty_good order lawful key piece.placed.known).1 piece.placed.good;
        first = constant_on lawful was.first value piece.placed took not_done;
        second = constant_on lawful was.second other piece.placed took_other not_done;
        bound = piece.bound;
      };
      widest = widest lawful was.first was.second key piece.placed ends value other;
    }

    -- nothing of what is left holds a place before it
    none_earlier : (p : Position K) → Lt (position_cmp order.cmp) p (lower order key)
        → (SomeHoldsAt order p (option_items first ++ rest) → ⊥)
        × (SomeHoldsAt order p (option_items second ++ others_rest) → ⊥)
    none_earlier p less = grind (arith, lt_not_le, lt_trans, not_left, took, took_other)

    -- the closure may answer to a piece before it without an error
    earlier_succeeds : (r : AnyRange K) (v : Option V) (w : Option W)
        → IsSharedPiece order items others r v w → LiesBefore order r key
        → (earlier : Option X) × may v w (Ok earlier)
    earlier_succeeds r v w is before =
        let known = is.part.known in
        let less =
        lt_le_trans lawful _ _ _ ((nonempty_good order lawful r known).0 is.part.nonempty)
        ((before_is order lawful r.end key.start known.1 piece.placed.known.0).0 before) in
        let none = none_earlier (lower order r) less in
        any_use _ _ was.answers (was_asked was r v w is none.0 none.1) was.given
        (λ c alike given. (c.answer, rw (alike.1, alike.2) at given))

    -- what the closure may answer to it
    pub answered_piece : (answer : Result (Option X) E) → may value other answer
        → MayAnswerOnBoth order may items others answer
    answered_piece answer says = grind (arith, earlier_succeeds, is_shared)

    abbrev more : Option X → List Answer
    more answer =
        was.answers ++ record { key = key; left = value; right = other; answer = answer } ∷ []

    module _ (answer : Option X) (new : List (Item (AnyRange K) X)) {is_clone : K → K → Type 0}
        (clones : (a b : Bound K) → IsBoundClone is_clone a b → SameBound order a b)
        (put : IsPut order same is_clone middle new key answer) where
      filled_more : IsFilledUpTo order lawful same equal full_range (upper order key)
          (was.answered ++ record { key = key; value = None; answer = answer } ∷ []) new
      filled_more =
          fill_more order lawful same equal full_range was.upto (upper order key) _ key
          (grind (arith, unbounded_end, unbounded_start)) starts_after (le_refl lawful _) is_clone
          clones None answer middle new was.filled put

      -- the piece is put after what the list holds already
      hold_more : (p : Position K) (U : X → Bool) → Alike order lawful same equal full_range U
          → Hold order lawful same equal U p new
          ↔ (Hold order lawful same equal U p middle
          ⊎ (HoldsAt order p key × Gives order lawful same equal full_range U answer))
      hold_more p U same_as =
          told (filled_more.has p U same_as) (any_last _ was.answered _)
          (was.filled.has p U same_as)

      held_more : (p : Position K) → IsDone (more answer) p
          → Any (λ c. HoldsAt order p c.key × IsHeldAs p new c.answer) (more answer)
      held_more p done =
          (any_last _ was.answers _).1 (elim ((any_last _ was.answers _).0 done) [
            | inl before ↦
                inl (any_over _ _ was.answers (grind (arith, hold_more, not_done, stays))
                (was.held p before))
            | inr at ↦ inr (
              at,
              λ U same_as. comes (hold_more p U same_as) (λ old. not_done p at (was.free p
                  (any_over _ _ middle (λ i held. (held.0, refl)) old))) at,
            )
          ])

      -- one answer more
      pub combined_more : may value other (Ok answer)
          → IsCombinedUpTo (option_items last ++ rest) (option_items last_other ++ others_rest) new
      combined_more says =
          let m_upto =
          le_trans lawful _ _ _ starts_after (lt_le lawful _ _ piece.placed.good) in
          record {
            answers = more answer;
            upto = upper order key;
            first = side_more lawful was.first took _ (λ p. (any_last _ was.answers _).1);
            second = side_more lawful was.second took_other _ (λ p. (any_last _ was.answers _).1);
            between =
                rest_between lawful items others key first value last rest piece.first ends.1
                was.between;
            others_between =
                rest_between lawful items others key second other last_other others_rest
                piece.second ends.1 was.others_between;
            each = every_append _ was.answers _ was.each (is_shared, tt);
            ended = every_append _ was.answers _ was.ended (ends.1, tt);
            rising =
                next_last _ was.answers _ was.rising
                (every_with _ _ _ was.answers was.each was.below (λ c part below.
                (before_is order lawful c.key.end key.start part.part.known.1
                piece.placed.known.0).1
                (le_trans lawful _ _ _ below starts_after)));
            below =
                every_append _ was.answers _
                (every_weaker _ _ was.answers (λ c le. le_trans lawful _ _ _ le m_upto) was.below)
                (le_refl lawful _, tt);
            given = every_append _ was.answers _ was.given (says, tt);
            answered = _;
            filled = filled_more;
            held = held_more;
            free = λ p h. (any_last _ was.answers _).1 (grind (arith, hold_more, respects_any));
          }

  as_answered : (new : List (Item (AnyRange K) X)) (k : K) → Known order lawful same equal new
      → order.is_key k → (answer b : Option X) → IsHeldAs (Beside k At) new answer
      → Binds order same new k b ↔ IsAsAnswered same answer b
  as_answered new k known key None None held =
      let own = held (λ u. true) (λ a b s t. t) in
      grind (arith, bound_hold order lawful same equal new k known key)
  as_answered new k known key (Some v) None held =
      let own = held (λ u. true) (λ a b s t. t) in
      grind (arith, bound_hold order lawful same equal new k known key)
  as_answered new k known key None (Some w) held =
      let own = held (λ u. same u w) (λ a b s t. sym (equal.congr a b w s) ∙ t) in
      grind (arith, binds_hold order lawful same equal new k w known key)
  as_answered new k known key (Some v) (Some w) held =
      let own = held (λ u. same u w) (λ a b s t. sym (equal.congr a b w s) ∙ t) in
      grind (arith, binds_hold order lawful same equal new k w known key)

  constant_bound : {U : Type 0} (xs : List (Item (AnyRange K) U)) (r : AnyRange K) (v : Option U)
      (k : K) → order.is_key k → Holds order r k → IsConstantOn order xs r v
      → (v ≡ None → ⊥) → IsBound order xs k
  constant_bound xs r None k key held constant some = absurd (some refl)
  constant_bound xs r (Some v) k key held constant some =
      inside_holds lawful r xs k key held (any_over _ _ xs (λ i h. h.0) constant)

  -- where nothing is left, the answers are the combination
  pub combined_all : {left : List (Item (AnyRange K) V)}
      {right : List (Item (AnyRange K) W)} {new : List (Item (AnyRange K) X)}
      {same_left : V → V → Bool} {same_right : W → W → Bool} → IsCombinedUpTo left right new
      → left ≡ [] → right ≡ []
      → IsStored order same new × IsCombination order same_left same_right same may items others new
  combined_all {new} was no_left no_right = (
    chain_stored order lawful same equal new was.filled.known was.filled.chain,
    record {
      answers = was.answers;
      each = was.each;
      rising = was.rising;
      all =
          λ piece left right is. was_asked was piece left right is (λ later. rw no_left at later)
          (λ later. rw no_right at later);
      given = was.given;
      held = λ k key bound.
          let done : IsDone was.answers (Beside k At) =
          elim bound [
            | inl b ↦ side_all lawful was.first no_left k key b
            | inr b ↦ side_all lawful was.second no_right k key b
          ] in
          any_with _ _ _ was.answers (was.held (Beside k At) done) was.each (λ c at part. (
            (held_between order lawful c.key k part.part.known key).1 at.0,
            λ b. as_answered new k was.filled.known key c.answer b at.1,
          ));
      free = λ k key unbound unbound_other bound.
          any_use _ _ was.answers (was.free (Beside k At)
          ((bound_hold order lawful same equal new k was.filled.known key).0 bound)) was.each
          (grind (arith, constant_bound, held_between order lawful, some_of));
    },
  )

-- from the pieces to the keys
module _ {K : Type 0} {order : KeyOrder K} (lawful : IsLawful order) where
  inside_binds_to : {U : Type 0} {same : U → U → Bool} → IsEquivalence same
      → (xs : List (Item (AnyRange K) U)) (r : AnyRange K) (v : U) (k : K) → order.is_key k
      → Holds order r k → Any (λ i. LiesIn order r i.key × (i.value ≡ v)) xs
      → BindsTo order same xs k v
  inside_binds_to equal [] r v k key held inside = inside
  inside_binds_to equal (x ∷ xs) r v k key held (inr inside) =
      inr (inside_binds_to equal xs r v k key held inside)
  inside_binds_to equal (x ∷ xs) r v k key held (inl inside) =
      inl (lies_in_holds lawful k key r x.key inside.0 held, rw inside.1 (equal.refl v))

  constant_binds : {U : Type 0} {same : U → U → Bool} → IsEquivalence same
      → (xs : List (Item (AnyRange K) U)) (r : AnyRange K) (v : Option U) (k : K) → order.is_key k
      → Holds order r k → IsConstantOn order xs r v → Binds order same xs k v
  constant_binds equal xs r None k key held none =
      λ bound. none (binding_meets order lawful xs r (k, key, held, bound)).1
  constant_binds equal xs r (Some v) k key held inside =
      inside_binds_to equal xs r v k key held inside

  -- each key of one of the lists is bound as an answer to what binds it says
  pub pieces_combine : {V W X E : Type 0} {same_left : V → V → Bool} → IsEquivalence same_left
      → {same_right : W → W → Bool} → IsEquivalence same_right → {same : X → X → Bool}
      → {may : Option V → Option W → Result (Option X) E → Type 0}
      → {items : List (Item (AnyRange K) V)} {others : List (Item (AnyRange K) W)}
      {new : List (Item (AnyRange K) X)}
      → IsCombination order same_left same_right same may items others new
      → AreCombined order same_left same_right same may items others new
  pieces_combine equal_left equal_right {items} {others} made = record {
    held = λ k key bound.
        any_use _ _ made.answers (made.held k key bound)
        (every_both _ _ made.answers made.each made.given) (grind (arith, constant_binds));
    free = made.free;
  }
