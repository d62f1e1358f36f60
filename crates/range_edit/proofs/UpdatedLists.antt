-- A list that was changed as a closure answers, by what was put in the place of a range.
use Rattle.range_edit.proofs.Common.{arith, common_steps, ◌≡◌, ◌∙◌, Option, Some, None, Bool, true, IsTrue, List, [], ◌∷◌, ◌++◌, ◌⊎◌, inl, inr, Result, Ok, Shared, Bor, Every, IsEquivalence, KeyOrder, AnyRange, Any, every_weaker, every_left, every_right, Item, MayAnswer, Answered, IsGivenBy, IsGathered, IsUpdated, AreAnswersTo, IsInserted, IsRemoved, IsUpdateFrame, IsMergedInto, IsMergeFrame, HasValue, JoinsOrMeets, IsPart, IsInsertionFrame, IsRemovalFrame, IsConnectedTo, Overlap, IsReplaced}
use Rattle.range_runs.proofs.RangePieces.{any_use, any_over, every_with}
use Rattle.range_edit.proofs.MergedItems.{rest_stands, way_follows}

module _ {K : Type 0} (order : KeyOrder K) {V : Type 0} (same : V → V → Bool)
    (equal : IsEquivalence same) {F E : Type 0} (calls : Shared F (Option (Bor V) × Unit {0})
    (Result (Option V) E)) (f : F) (items new : List (Item (AnyRange K) V)) (r : AnyRange K) where
  same_is_symmetric : (a b : V) → IsTrue (same a b) → IsTrue (same b a)
  same_is_symmetric a b h = equal.symm b a ∙ h

  given_by : (answers : List (Answered K V)) (j : Item (AnyRange K) V) (v : V)
      → same v j.value ≡ true → Any (λ a. a.answer ≡ Some j.value) answers
      → IsGivenBy same answers v
  given_by answers j v alike h = grind (arith, common_steps, any_over, same_is_symmetric)

  -- what was gathered stands in the place of the range
  pub by_middle : (middle : List (Item (AnyRange K) V))
      → IsGathered order same calls f items r middle → IsReplaced order same items new middle r
      → IsUpdated order same calls f items new r
  by_middle middle h put = record {
    answered = grind (arith, common_steps, any_over);
    frame = way_follows (λ run others way. record {
      concerned = way.concerned;
      valued = every_weaker (λ j. HasValue order same run j.value ⊎ HasValue order same middle
          j.value) (λ j. HasValue order same run j.value ⊎ IsGivenBy same h.answers j.value) others
          (λ j t. elim t [
            | inl old ↦ inl old
            | inr own ↦ inr (any_use (λ i. IsTrue (same j.value i.value))
                (λ i. Any (λ a. a.answer ≡ Some i.value) h.answers) middle own h.valued
                (λ i alike from. given_by h.answers i j.value alike from))
          ]) way.valued;
    }) put.frame;
  }

  -- what an update does not meet stands or is merged
  pub updated_stands : IsUpdated order same calls f items new r
      → IsUpdateFrame order same items new r
  updated_stands h = grind (arith, common_steps, rest_stands)

  abbrev one_answer : V → Option V → List (Answered K V)
  one_answer v answer = record { key = r; value = Some v; answer = answer } ∷ []

  module _ (old : V) where
    inserted_frame : (v : V)
        → Every (λ i. IsConnectedTo order i.key r → Overlap order i.key r) items
        → IsInsertionFrame order same items new r v
        → IsMergeFrame order same items new r (IsGivenBy same (one_answer old (Some v)))
    inserted_frame v alone h =
        let met = every_right _ h.front h.run (every_left _ (h.front ++ h.run) h.behind
        (rw h.before at alone)) in
        record {
          front = h.front;
          run = h.run;
          others = h.others;
          behind = h.behind;
          before = h.before;
          after = h.after;
          such = record {
            concerned = every_with (JoinsOrMeets order same r v) _
                (λ i. Overlap order i.key r ⊎ IsMergedInto order same h.others r i) h.run
                h.such.concerned met (λ i t a. inl (grind (arith, common_steps, t, a)));
            valued = grind (arith, common_steps, every_weaker, same_is_symmetric);
          };
        }

    removed_frame : IsRemovalFrame order same items new r
        → IsMergeFrame order same items new r (IsGivenBy same (one_answer old None))
    removed_frame = way_follows (λ run others way. record {
      concerned = every_weaker _ _ run (λ i t. inl t) way.concerned;
      valued = every_weaker (IsPart order same run r) (λ j. HasValue order same run j.value ⊎
          IsGivenBy same (one_answer old None) j.value) others (λ j t. inl t.value) way.made;
    })

    pub by_insertion : (v : V)
        → Every (λ i. IsConnectedTo order i.key r → Overlap order i.key r) items
        → AreAnswersTo order items r (one_answer old (Some v))
        → MayAnswer calls f (Some old) (Ok (Some v)) → IsInserted order same items new r v
        → IsUpdated order same calls f items new r
    by_insertion v alone pieces says h = record {
      answered = record {
        answers = one_answer old (Some v);
        pieces = pieces;
        given = (says, tt);
        held = λ k key in_r. inl (in_r, λ b. let t = h.bound.held k key in_r b in grind (arith, common_steps, t));
        others = h.bound.others;
      };
      frame = inserted_frame v alone h.frame;
    }

    pub by_removal : AreAnswersTo order items r (one_answer old None)
        → MayAnswer calls f (Some old) (Ok None) → IsRemoved order same items new r
        → IsUpdated order same calls f items new r
    by_removal pieces says h = record {
      answered = record {
        answers = one_answer old None;
        pieces = pieces;
        given = (says, tt);
        held = λ k key in_r. inl (in_r, λ b. h.unbound.held k key in_r b);
        others = h.unbound.others;
      };
      frame = removed_frame h.frame;
    }
